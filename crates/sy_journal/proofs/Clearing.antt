-- What clearing leaves behind the frames of a file.
use Rattle.std.proofs.Common.{◌≡◌, ⊎_elim, ℕ, zero, suc, ◌+◌, ◌-◌, ◌<◌, ◌≤◌, List, [], ◌∷◌, ◌++◌, length, take, drop, refl, sym, ◌∙◌, ap, subst, arith, length-append, take-append-drop, length-take, length-drop}
use Rattle.std.proofs.lemmas.List.{take_at, drop_at}
use Rattle.sy_journal.specs.Storage.{written_at, Torn, Only, Follows}
use Rattle.sy_journal.specs.Frames.{Reads, BeginsWithNoFrame, blank}
use Rattle.sy_journal.specs.Log.{IsAsBefore, IsCleared}
use Rattle.sy_journal.specs.internal.Reading.{BeginsWithNoFrameBehind, IsSplit}
use Rattle.sy_journal.proofs.Torn.{length-blank, length-written_at}
use Rattle.sy_journal.proofs.Framing.{reads_once, reads_frames, shut_zero, shut_blank}

torn_none : (old c : List ℕ) → Torn zero [] old c → c ≡ old
torn_none [] c torn = torn
torn_none (o ∷ old) [] torn = absurd torn
torn_none (o ∷ old) (x ∷ c) torn = λ i. torn.0 i ∷ torn.1 i

-- one zero over the front of the tail
pub torn_close : (end : ℕ) (file c : List ℕ) → end < length file → Torn end (0 ∷ []) file c → BeginsWithNoFrame (drop end file) → BeginsWithNoFrameBehind end file c
torn_close zero [] c less torn shut = absurd (omega (arith, less))
torn_close zero (t ∷ file) [] less torn shut = absurd torn
torn_close zero (t ∷ file) (x ∷ c) less torn shut = ⊎_elim
    (λ old. record { tail = t ∷ file; is = λ i. old i ∷ torn_none file c torn.1 i; shut = shut })
    (λ now. record { tail = 0 ∷ c; is = λ i. now i ∷ c; shut = shut_zero c })
    torn.0
torn_close (suc end) [] c less torn shut = absurd (omega (arith, less))
torn_close (suc end) (t ∷ file) [] less torn shut = absurd torn
torn_close (suc end) (t ∷ file) (x ∷ c) less torn shut =
    let rest = torn_close end file c (omega (arith, less)) torn.1 shut in
    record { tail = rest.tail; is = λ i. torn.0 i ∷ rest.is i; shut = rest.shut }

pub written_close : (end : ℕ) (file : List ℕ) → end < length file → written_at end (0 ∷ []) file ≡ take end file ++ 0 ∷ drop (suc end) file
written_close zero [] less = absurd (omega (arith, less))
written_close zero (t ∷ file) less = ap (λ (l : List ℕ). 0 ∷ l) (none file)
  where
    none : (l : List ℕ) → written_at zero [] l ≡ l
    none [] = refl
    none (x ∷ l) = refl
written_close (suc end) [] less = absurd (omega (arith, less))
written_close (suc end) (t ∷ file) less = ap (λ (l : List ℕ). t ∷ l) (written_close end file (omega (arith, less)))

-- zeros over a tail that a zero closes
pub torn_clear : (end n : ℕ) (file c : List ℕ) → end < length file → Torn end (0 ∷ blank n) (written_at end (0 ∷ []) file) c → BeginsWithNoFrameBehind end file c
torn_clear zero n [] c less torn = absurd (omega (arith, less))
torn_clear zero n (t ∷ file) [] less torn = absurd torn
torn_clear zero n (t ∷ file) (x ∷ c) less torn = record { tail = 0 ∷ c; is = λ i. ⊎_elim (λ (a : x ≡ 0). a) (λ (b : x ≡ 0). b) torn.0 i ∷ c; shut = shut_zero c }
torn_clear (suc end) n [] c less torn = absurd (omega (arith, less))
torn_clear (suc end) n (t ∷ file) [] less torn = absurd torn
torn_clear (suc end) n (t ∷ file) (x ∷ c) less torn =
    let rest = torn_clear end n file c (omega (arith, less)) torn.1 in
    record { tail = rest.tail; is = λ i. torn.0 i ∷ rest.is i; shut = rest.shut }

written_whole : (bytes old : List ℕ) → length bytes ≡ length old → written_at zero bytes old ≡ bytes
written_whole [] [] same = refl
written_whole [] (o ∷ old) same = absurd (omega (arith, same))
written_whole (b ∷ bytes) [] same = absurd (omega (arith, same))
written_whole (b ∷ bytes) (o ∷ old) same = ap (λ (l : List ℕ). b ∷ l) (written_whole bytes old (omega (arith, same)))

pub written_end : (end : ℕ) (bytes old : List ℕ) → end + length bytes ≡ length old → written_at end bytes old ≡ take end old ++ bytes
written_end zero bytes old same = written_whole bytes old (omega (arith, same))
written_end (suc end) [] [] same = absurd (omega (arith, same))
written_end (suc end) (b ∷ bytes) [] same = absurd (omega (arith, same))
written_end (suc end) [] (o ∷ old) same = ap (λ (l : List ℕ). o ∷ l) (written_end end [] old (omega (arith, same)))
written_end (suc end) (b ∷ bytes) (o ∷ old) same = ap (λ (l : List ℕ). o ∷ l) (written_end end (b ∷ bytes) old (omega (arith, same)))

blank_front : (m : ℕ) → 0 < m → blank m ≡ 0 ∷ blank (m - 1)
blank_front zero less = absurd (omega (arith, less))
blank_front (suc m) less = let same : m ≡ suc m - 1 = omega arith in ap (λ (n : ℕ). 0 ∷ blank n) same

pub shut_still : (end : ℕ) (file c : List ℕ) → c ≡ file → BeginsWithNoFrame (drop end file) → BeginsWithNoFrameBehind end file c
shut_still end file c same shut = record { tail = drop end file; is = same ∙ sym (take-append-drop end file); shut = shut }

pub first_crash : (file : List ℕ) (end : ℕ) (old new : List ℕ → Type 0) → Only file old → end < length file → BeginsWithNoFrame (drop end file) → Follows (Torn end (0 ∷ [])) old new → (c : List ℕ) → new c → BeginsWithNoFrameBehind end file c
first_crash file end old new only less shut follows c left =
    let from = follows c left in
    torn_close end file c less (subst (λ (f : List ℕ). Torn end (0 ∷ []) f c) (only from.0 from.1) from.2) shut

pub second_crash : (file mid bytes : List ℕ) (end m : ℕ) (old new : List ℕ → Type 0) → bytes ≡ blank m → 0 < m → mid ≡ written_at end (0 ∷ []) file → Only mid old → end < length file → Follows (Torn end bytes) old new → (c : List ℕ) → new c → BeginsWithNoFrameBehind end file c
second_crash file mid bytes end m old new is some staged only less follows c left =
    let from = follows c left in
    let torn : Torn end bytes mid c = subst (λ (f : List ℕ). Torn end bytes f c) (only from.0 from.1) from.2 in
    torn_clear end (m - 1) file c less (subst (λ (f : List ℕ). Torn end f (written_at end (0 ∷ []) file) c) (is ∙ blank_front m some) (subst (λ (f : List ℕ). Torn end bytes f c) staged torn))

-- the zeros stand behind the front
pub clear_done : (file mid bytes c : List ℕ) (end size : ℕ) → bytes ≡ blank (size - end) → mid ≡ written_at end (0 ∷ []) file → size ≡ length file → end < size → c ≡ written_at end bytes mid → c ≡ take end file ++ blank (size - end)
clear_done file mid bytes c end size is staged sizes less written =
    let mid_is : mid ≡ take end file ++ 0 ∷ drop (suc end) file = staged ∙ written_close end file (omega (arith, less, sizes)) in
    let mid_size : length mid ≡ length file = ap length mid_is ∙ omega (arith, length-append (take end file) (0 ∷ drop (suc end) file), length-take end file, length-drop (suc end) file, less, sizes) in
    let room : end + length bytes ≡ length mid = omega (arith, mid_size, ap length is, length-blank (size - end), less, sizes) in
    let front_size : length (take end file) ≡ end = omega (arith, length-take end file, less, sizes) in
    written ∙ written_end end bytes mid room ∙ (λ i. take end (mid_is i) ++ is i) ∙ ap (λ (l : List ℕ). l ++ blank (size - end)) (take_at (take end file) (0 ∷ drop (suc end) file) end front_size)

pub room_for : (file mid bytes : List ℕ) (end size : ℕ) → bytes ≡ blank (size - end) → mid ≡ written_at end (0 ∷ []) file → size ≡ length file → end < size → end + length bytes ≤ length mid
room_for file mid bytes end size is staged sizes less = omega (arith, ap length staged, length-written_at end (0 ∷ []) file, ap length is, length-blank (size - end), less, sizes)

-- a file with the same front stands for the same
pub as_before : (file : List ℕ) (contents : List (List ℕ)) (end : ℕ) → IsSplit file contents end → (c : List ℕ) → BeginsWithNoFrameBehind end file c → IsAsBefore file c
as_before file contents end s c behind xs reads =
    let known : contents ≡ xs = reads_once contents xs file (subst (Reads contents) (sym s.split) (reads_frames contents s.used s.tail s.frames s.shut)) reads in
    let front : take end file ≡ s.used = ap (take end) s.split ∙ take_at s.used s.tail end s.size in
    let is : c ≡ s.used ++ behind.tail = behind.is ∙ ap (λ (l : List ℕ). l ++ behind.tail) front in
    subst (λ (l : List (List ℕ)). Reads l c) known (subst (Reads contents) (sym is) (reads_frames contents s.used behind.tail s.frames behind.shut))

pub split_shut : (file : List ℕ) (contents : List (List ℕ)) (end : ℕ) → IsSplit file contents end → BeginsWithNoFrame (drop end file)
split_shut file contents end s = subst BeginsWithNoFrame (sym (ap (drop end) s.split ∙ drop_at s.used s.tail end s.size)) s.shut

pub split_reads : (file : List ℕ) (contents : List (List ℕ)) (end : ℕ) → IsSplit file contents end → Reads contents file
split_reads file contents end s = subst (Reads contents) (sym s.split) (reads_frames contents s.used s.tail s.frames s.shut)

pub split_within : (file : List ℕ) (contents : List (List ℕ)) (end : ℕ) → IsSplit file contents end → end ≤ length file
split_within file contents end s = omega (arith, ap length s.split, length-append s.used s.tail, s.size)

pub split_cleared : (file new : List ℕ) (contents : List (List ℕ)) (end size : ℕ) → IsSplit file contents end → size ≡ length file → new ≡ take end file ++ blank (size - end) → IsCleared new contents end size
split_cleared file new contents end size s sizes is =
    let front : take end file ≡ s.used = ap (take end) s.split ∙ take_at s.used s.tail end s.size in
    record {
      used = s.used;
      left = size - end;
      frames = s.frames;
      bytes = is ∙ ap (λ (l : List ℕ). l ++ blank (size - end)) front;
      ends = sym s.size;
      sizes = omega (arith, ap length is, length-append (take end file) (blank (size - end)), length-take end file, length-blank (size - end), sizes, split_within file contents end s);
    }

pub cleared_shut : (end n : ℕ) (file c : List ℕ) → c ≡ take end file ++ blank n → BeginsWithNoFrameBehind end file c
cleared_shut end n file c is = record { tail = blank n; is = is; shut = shut_blank n }

-- where only zeros stand behind the frames, all is cleared
pub split_blank : (file : List ℕ) (contents : List (List ℕ)) (end size : ℕ) → IsSplit file contents end → size ≡ length file → drop end file ≡ blank (length file - end) → IsCleared file contents end size
split_blank file contents end size s sizes is =
    split_cleared file file contents end size s sizes (sym (take-append-drop end file) ∙ ap (λ (l : List ℕ). take end file ++ l) is ∙ ap (λ (n : ℕ). take end file ++ blank n) (ap (λ (n : ℕ). n - end) (sym sizes)))
