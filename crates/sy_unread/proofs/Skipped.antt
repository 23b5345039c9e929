-- What becomes of a stream of frames, short and long.
use Rattle.std.proofs.Common.{◌≡◌, ℕ, zero, suc, ◌+◌, ◌-◌, ◌<◌, ◌≤◌, inl, inr, Bool, List, [], ◌∷◌, ◌++◌, length, take, refl, sym, ap, subst, ◌∙◌, arith}
use Rattle.std.specs.List.{AllByRecursion}
use Rattle.std.specs.Fmt.{decimal}
use Rattle.std.proofs.lemmas.Bool.{le-leb, lt-leb}
use Rattle.std.proofs.lemmas.Str.Parse.{digits_value-take-le}
use Rattle.std.proofs.lemmas.Fmt.{decimal_injective, decimal_is_IsNumeral, decimal_nonempty, first_decimal}
use Rattle.std.proofs.lemmas.List.{append_assoc, length-append, nil_from_length, take_at}
use Rattle.sy_wire.specs.Characters.{space}
use Rattle.sy_wire.specs.Frames.{MAX_FRAME, frame as frame_of, stream}
use Rattle.sy_wire.proofs.Opens.{Digits, digits_from_all, first_of, front_digits, one_front, only_digits, space_is_none}
use Rattle.sy_unread.specs.Skipping.{Goes, IsCut, IsNumbered, IsUnframed, Kept, ends, follows, frame, keeps, long, next_number, passes, past_long, rests, skips, strays}
use Rattle.sy_unread.specs.Skipped.{FramesGo, StretchesJoin, long_of, short_of}
use Rattle.sy_unread.specs.declared.skipping.place.Place.{Place}
use Rattle.sy_unread.specs.declared.skipping.place.Place.TheVariants.{Within, WithinLong, Unframed}
use Rattle.sy_unread.proofs.Goings.{goes_before, goes_on}

abbrev Sized : List (List ℕ) → Type 0
Sized messages = AllByRecursion (λ message. IsNumbered (length message)) messages

digits_below : (n : ℕ) → n < 10000000000 → Digits (decimal n)
digits_below n small = let numeral = decimal_is_IsNumeral n (omega arith) in digits_from_all (decimal n) numeral.0.1

-- a list cut at two places
split_front : (x rest a s : List ℕ) → length x ≤ length a → x ++ rest ≡ a ++ s → (y : List ℕ) × (a ≡ x ++ y) × (rest ≡ y ++ s)
split_front [] rest a s le e = (a, refl, e)
split_front (b ∷ x) rest [] s le e = absurd (omega arith)
split_front (b ∷ x) rest (c ∷ a) s le e =
    let tails : x ++ rest ≡ a ++ s = cc in
    let heads : b ≡ c = cc in
    let cut = split_front x rest a s (omega arith) tails in
    (cut.0, (let tail : a ≡ x ++ cut.0 = cut.1 in cc), cut.2)

-- the message of the frame that is next, where a head is next
one_message :
    (bytes a rest : List ℕ) (ms : List (List ℕ)) (n : ℕ)
    → Sized ms → length a ≡ 0 → bytes ≡ a ++ stream ms → IsNumbered n → bytes ≡ decimal n ++ space ∷ rest
    → (m : List ℕ) × (later : List (List ℕ)) × (ms ≡ m ∷ later) × (length m ≡ n) × (rest ≡ m ++ stream later)
one_message bytes a rest [] n sized none e is head =
    let size = ap length (sym e ∙ head) in
    absurd (omega (arith, size, none, length-append a [], length-append (decimal n) (space ∷ rest)))
one_message bytes a rest (m ∷ later) n sized none e is head =
    let no : a ≡ [] = nil_from_length a none in
    let whole : decimal n ++ space ∷ rest ≡ decimal (length m) ++ space ∷ (m ++ stream later) =
    sym head ∙ e ∙ ap (λ x. x ++ stream (m ∷ later)) no ∙ append_assoc (decimal (length m)) (space ∷ m) (stream later) in
    let parts = one_front _ _ space space _ _ (digits_below n (omega (arith, is.1))) (digits_below (length m) (omega (arith, sized.0.1))) space_is_none space_is_none whole in
    let same : n ≡ length m = decimal_injective n (length m) (omega (arith, is.1)) (omega (arith, sized.0.1)) parts.0 in
    (m, later, refl, sym same, parts.2)

-- digits within digits make no more
value_below : (m n : ℕ) (t : List ℕ) → m < 10000000000 → n < 10000000000 → decimal n ≡ decimal m ++ t → m ≤ n
value_below m n t small small' e =
    let of_m = (decimal_is_IsNumeral m (omega arith)).1 in
    let of_n = (decimal_is_IsNumeral n (omega arith)).1 in
    let front : take (length (decimal m)) (decimal n) ≡ decimal m = rw e (take_at (decimal m) t (length (decimal m)) refl) in
    let le = digits_value-take-le 10 (decimal n) (length (decimal m)) (omega arith) in
    rw (front, of_m, of_n) at le

pub some_stray : (bytes : List ℕ) → IsUnframed bytes → bytes ≡ [] → ⊥
some_stray bytes (inl b) none = let never : [] ≡ b.0 ∷ b.1 = sym none ∙ b.2 in cc
some_stray bytes (inr (inl b)) none = let size = ap length (sym none ∙ b.4) in omega (arith, size, length-append (decimal b.0) (b.1 ∷ b.2))
some_stray bytes (inr (inr b)) none =
    let size = ap length (sym none ∙ b.4) in
    omega (arith, size, decimal_nonempty b.0 (omega (arith, b.3)), length-append (decimal b.0) b.1)

some_cut : (bytes : List ℕ) → IsCut bytes → bytes ≡ [] → ⊥
some_cut bytes (inl b) none = let size = ap length (sym none ∙ b.2) in omega (arith, size, decimal_nonempty b.0 (omega (arith, b.1.1)))
some_cut bytes (inr b) none = let size = ap length (sym none ∙ b.3) in omega (arith, size, length-append (decimal b.0) (space ∷ b.1))

-- where the head of a frame is next, no bytes begin none
pub never_stray : (n : ℕ) (tail : List ℕ) (bytes came rest : List ℕ) → IsNumbered n → bytes ≡ decimal n ++ space ∷ tail → bytes ≡ came ++ rest → IsUnframed came → ⊥
never_stray n tail bytes came rest is e cut (inl b) =
    let whole : decimal n ++ space ∷ tail ≡ b.0 ∷ (b.1 ++ rest) = sym e ∙ cut ∙ ap (λ x. x ++ rest) b.2 in
    let first = first_of (decimal n) (space ∷ tail) b.0 (b.1 ++ rest) (digits_below n (omega (arith, is.1))) (decimal_nonempty n (omega (arith, is.1))) (first_decimal n is.0 (omega (arith, is.1))) whole in
    b.3 (let above : 48 < b.0 = first.1 in omega arith) first.0
never_stray n tail bytes came rest is e cut (inr (inl b)) =
    let whole : decimal n ++ space ∷ tail ≡ decimal b.0 ++ b.1 ∷ (b.2 ++ rest) = sym e ∙ cut ∙ ap (λ x. x ++ rest) b.4 ∙ append_assoc (decimal b.0) (b.1 ∷ b.2) rest in
    let parts = one_front _ _ space b.1 _ _ (digits_below n (omega (arith, is.1))) (digits_below b.0 (omega (arith, b.3.1))) space_is_none b.5 whole in
    b.6 (sym parts.1)
never_stray n tail bytes came rest is e cut (inr (inr b)) =
    let whole : decimal n ++ space ∷ tail ≡ decimal b.0 ++ (b.1 ++ rest) = sym e ∙ cut ∙ ap (λ x. x ++ rest) b.4 ∙ append_assoc (decimal b.0) b.1 rest in
    let inside = front_digits (decimal n) (decimal b.0) space tail (b.1 ++ rest) (digits_below b.0 b.3) space_is_none whole in
    let le = value_below b.0 n inside.0 b.3 (omega (arith, is.1)) inside.1 in
    omega (arith, le, b.2, is.1)

never_cut : (m later : List ℕ) (bytes : List ℕ) → IsNumbered (length m) → bytes ≡ decimal (length m) ++ space ∷ (m ++ later) → IsCut bytes → ⊥
never_cut m later bytes is e (inl b) = only_digits (decimal b.0) (decimal (length m)) space (m ++ later) (digits_below b.0 (omega (arith, b.1.1))) space_is_none (sym b.2 ∙ e)
never_cut m later bytes is e (inr b) =
    let parts = one_front _ _ space space _ _ (digits_below b.0 (omega (arith, b.2.1))) (digits_below (length m) (omega (arith, is.1))) space_is_none space_is_none (sym b.3 ∙ e) in
    let same : b.0 ≡ length m = decimal_injective b.0 (length m) (omega (arith, b.2.1)) (omega (arith, is.1)) parts.0 in
    let size = ap length parts.2 in
    omega (arith, b.4, b.2.0, same, size, length-append m later)

-- a stream of frames that is anything else
stray_in : (ms : List (List ℕ)) (bytes came rest : List ℕ) → Sized ms → stream ms ≡ bytes → bytes ≡ came ++ rest → IsUnframed came → ⊥
stray_in [] bytes came rest sized same e is = some_stray came is (nil_from_length came (let size = ap length (same ∙ e) in omega (arith, size, length-append came rest)))
stray_in (m ∷ ms) bytes came rest sized same e is = never_stray (length m) (m ++ stream ms) bytes came rest sized.0 (sym same ∙ append_assoc (decimal (length m)) (space ∷ m) (stream ms)) e is

cut_in : (ms : List (List ℕ)) (bytes : List ℕ) → Sized ms → stream ms ≡ bytes → IsCut bytes → ⊥
cut_in [] bytes sized same is = some_cut bytes is (sym same)
cut_in (m ∷ ms) bytes sized same is = never_cut m (stream ms) bytes sized.0 (sym same ∙ append_assoc (decimal (length m)) (space ∷ m) (stream ms)) is

-- what is still handed on and kept, from a place on
abbrev Stands : ℕ → Place → List ℕ → List ℕ → List Kept → Type 0
Stands k (Within n) bytes out kept =
    (a : List ℕ) × (ms : List (List ℕ)) × Sized ms × (length a ≡ n) × (bytes ≡ a ++ stream ms) × (out ≡ a ++ stream (short_of ms)) × (kept ≡ long_of k ms)
Stands k (WithinLong n) bytes out kept =
    (a : List ℕ) × (ms : List (List ℕ)) × Sized ms × (length a ≡ n) × (bytes ≡ a ++ stream ms) × (out ≡ stream (short_of ms)) × (kept ≡ long_of k ms) × (0 < n)
Stands k Unframed bytes out kept = ⊥

past_stands : (k n : ℕ) (a bytes : List ℕ) (ms : List (List ℕ)) → Sized ms → length a ≡ n → bytes ≡ a ++ stream ms → Stands k (past_long n) bytes (stream (short_of ms)) (long_of k ms)
past_stands k zero a bytes ms sized size e =
    let no : a ≡ [] = nil_from_length a size in
    ([], ms, sized, refl, e ∙ ap (λ x. x ++ stream ms) no, refl, refl)
past_stands k (suc n) a bytes ms sized size e = (a, ms, sized, size, e, refl, refl, omega arith)

-- a message that a framer takes, and one that it doesn't
short_more :
    (k : ℕ) (m : List ℕ) (ms : List (List ℕ)) → length m ≤ MAX_FRAME
    → (stream (short_of (m ∷ ms)) ≡ frame_of m ++ stream (short_of ms)) × (long_of k (m ∷ ms) ≡ long_of (next_number k) ms)
short_more k m ms le = let is = le-leb (length m) MAX_FRAME le in (rw is refl, rw is refl)

long_more :
    (k : ℕ) (m : List ℕ) (ms : List (List ℕ)) → MAX_FRAME < length m
    → (stream (short_of (m ∷ ms)) ≡ stream (short_of ms))
    × (long_of k (m ∷ ms) ≡ long (next_number k) (length m) (take MAX_FRAME m) ∷ long_of (next_number k) ms)
long_more k m ms lt = let is = lt-leb (length m) MAX_FRAME lt in (rw is refl, rw is refl)

frame_len : (m : List ℕ) (n : ℕ) → length m ≡ n → length (frame_of m) ≡ length (decimal n) + 1 + n
frame_len m n e = rw (← e) (omega (arith, length-append (decimal (length m)) (space ∷ m)))

-- nothing is left
at_end :
    (k : ℕ) (p : Place) (bytes out : List ℕ) (kept : List Kept) → bytes ≡ [] → Stands k p bytes out kept → (out ≡ []) × (kept ≡ []) × (p ≡ Within 0)
at_end count (Within n) bytes out kept none (a, ms, sized, size, e, o, k) =
    let both = nothing_in a ms (sym e ∙ none) in
    (o ∙ ap (λ x. x ++ stream (short_of ms)) both.0 ∙ ap (λ x. stream (short_of x)) both.1, k ∙ ap (long_of count) both.1, ap Within (sym size ∙ ap length both.0))
  where
    nothing_in : (a : List ℕ) (ms : List (List ℕ)) → a ++ stream ms ≡ [] → (a ≡ []) × (ms ≡ [])
    nothing_in a [] e = (nil_from_length a (let size = ap length e in omega (arith, size, length-append a [])), refl)
    nothing_in a (m ∷ ms) e = let size = ap length e in absurd (omega (arith, size, length-append a (stream (m ∷ ms)), length-append (frame_of m) (stream ms), length-append (decimal (length m)) (space ∷ m)))
at_end count (WithinLong n) bytes out kept none (a, ms, sized, size, e, o, k, some) =
    let all = ap length (sym e ∙ none) in absurd (omega (arith, all, size, some, length-append a (stream ms)))
at_end count Unframed bytes out kept none stands = absurd stands

pub goes_all :
    {t : Bool} {c c' : ℕ} {p q : Place} {bytes out left : List ℕ} {kept : List Kept} (wanted : List ℕ) (asked : List Kept)
    → Goes t c p bytes out kept c' q left → left ≡ [] → Stands c p bytes wanted asked → (out ≡ wanted) × (kept ≡ asked) × (q ≡ Within 0)
goes_all wanted asked rests none stands = let end = at_end _ _ _ wanted asked none stands in (sym end.0, sym end.1, end.2)
goes_all {c = c} {bytes = bytes} wanted asked (frame n rest size e f) none (a, ms, sized, sz, w, o, k) =
    let is : IsNumbered n = (size.0, omega (arith, size.1)) in
    let next = one_message bytes a rest ms n sized sz w is e in
    let m = next.0 in
    let later = next.1 in
    let ms_is = next.2 in
    let mine : Sized (m ∷ later) = subst (λ x. Sized x) ms_is sized in
    let no : a ≡ [] = nil_from_length a sz in
    let short = short_more c m later (omega (arith, next.3, size.1)) in
    let wanted_is : wanted ≡ frame_of m ++ stream (short_of later) = o ∙ ap (λ x. x ++ stream (short_of ms)) no ∙ ap (λ x. stream (short_of x)) ms_is ∙ short.0 in
    let asked_is : asked ≡ long_of (next_number c) later = k ∙ ap (long_of c) ms_is ∙ short.1 in
    let bytes_is : bytes ≡ frame_of m ++ stream later = w ∙ ap (λ x. x ++ stream ms) no ∙ ap stream ms_is in
    let len : length (frame_of m) ≡ length (decimal n) + 1 + n = frame_len m n next.3 in
    goes_all wanted asked f none (frame_of m, later, mine.1, len, bytes_is, wanted_is, asked_is)
goes_all {bytes = bytes} {out = out} wanted asked (passes text rest inner fits e all f) none (a, ms, sized, sz, w, o, k) =
    let cut = split_front text rest a (stream ms) (omega (arith, sz, fits)) (sym e ∙ w) in
    let size = ap length cut.1 in
    let left = goes_all (cut.0 ++ stream (short_of ms)) asked f none
    (cut.0, ms, sized, omega (arith, size, sz, length-append text cut.0), cut.2, refl, k) in
    (all ∙ ap (λ x. text ++ x) left.0 ∙ sym (append_assoc text cut.0 (stream (short_of ms))) ∙ ap (λ x. x ++ stream (short_of ms)) (sym cut.1) ∙ sym o, left.1, left.2)
goes_all {c = c} {bytes = bytes} wanted asked (keeps n text rest is size e f) none (a, ms, sized, sz, w, o, k) =
    let numbered : IsNumbered n = (omega (arith, is.0), is.1) in
    let next = one_message bytes a (text ++ rest) ms n sized sz w numbered e in
    let m = next.0 in
    let later = next.1 in
    let ms_is = next.2 in
    let mine : Sized (m ∷ later) = subst (λ x. Sized x) ms_is sized in
    let no : a ≡ [] = nil_from_length a sz in
    let cut = split_front text rest m (stream later) (omega (arith, size, next.3, is.0)) next.4 in
    let sizes = ap length cut.1 in
    let longer = long_more c m later (omega (arith, next.3, is.0)) in
    let first : take MAX_FRAME m ≡ text = ap (take MAX_FRAME) cut.1 ∙ take_at text cut.0 MAX_FRAME size in
    let wanted_is : wanted ≡ stream (short_of later) = o ∙ ap (λ x. x ++ stream (short_of ms)) no ∙ ap (λ x. stream (short_of x)) ms_is ∙ longer.0 in
    let number : ℕ = next_number c in
    let asked_is : asked ≡ long number n text ∷ long_of number later =
    k ∙ ap (long_of c) ms_is ∙ longer.1 ∙ ap (λ x. long number x (take MAX_FRAME m) ∷ long_of number later) next.3 ∙ ap (λ x. long number n x ∷ long_of number later) first in
    let rest_stands = past_stands number (n - MAX_FRAME) cut.0 rest later mine.1 (omega (arith, sizes, size, next.3, is.0, length-append text cut.0)) cut.2 in
    let left = goes_all (stream (short_of later)) (long_of number later) f none rest_stands in
    (left.0 ∙ sym wanted_is, ap (λ x. long number n text ∷ x) left.1 ∙ sym asked_is, left.2)
goes_all {c = c} wanted asked (skips text rest fits e f) none (a, ms, sized, sz, w, o, k, some) =
    let cut = split_front text rest a (stream ms) (omega (arith, sz, fits)) (sym e ∙ w) in
    let size = ap length cut.1 in
    let rest_stands = past_stands c _ cut.0 rest ms sized (omega (arith, size, sz, length-append text cut.0)) cut.2 in
    let left = goes_all (stream (short_of ms)) (long_of c ms) f none rest_stands in
    (left.0 ∙ sym o, left.1 ∙ sym k, left.2)
goes_all {bytes = bytes} wanted asked (strays came rest is e f) none (a, ms, sized, sz, w, o, k) = absurd (no_stray ms sized (sym (ap (λ x. x ++ stream ms) (nil_from_length a sz)) ∙ sym w))
  where
    no_stray : (ms : List (List ℕ)) → Sized ms → stream ms ≡ bytes → ⊥
    no_stray ms sized same = stray_in ms bytes came rest sized same e is
goes_all {bytes = bytes} wanted asked (ends over is f) none (a, ms, sized, sz, w, o, k) =
    absurd (cut_in ms bytes sized (sym (ap (λ x. x ++ stream ms) (nil_from_length a sz)) ∙ sym w) is)
goes_all wanted asked (follows text rest inner e all f) none stands = absurd stands

pub frames_go : FramesGo
frames_go is_over messages out kept count place sized goes =
    let all = goes_all (stream (short_of messages)) (long_of 0 messages) goes refl ([], messages, sized, refl, refl, refl, refl) in
    record { handed = all.0; kept_are = all.1; at_a_frame = all.2 }

pub stretches_join : StretchesJoin
stretches_join is_over k k' k'' from between to bytes more left rest out out' kept kept' one other = goes_on (goes_before more one) other
