-- The frames of messages, numbered.
use Rattle.std.proofs.Common.{◌≡◌, ◌≢◌, ℕ, inr, suc, ◌+◌, ◌-◌, ◌<◌, ◌≤◌, List, [], ◌∷◌, ◌++◌, length, get_or, map, take, drop, length-drop, sym, ap, ◌∙◌, arith, take-add}
use Rattle.std.proofs.lemmas.List.{append-nil, get_or-map, length-map, length-take-le, take_all, take-append-drop, take_more}
use Rattle.std.proofs.lemmas.List.Concat.{flat_map-append}
use Rattle.sy_wire.specs.Messages.{Said}
use Rattle.std.specs.List.{AllByRecursion}
use Rattle.std.specs.Prelude.{Option, codes}
use Rattle.std.specs.Io.KnownBytes.{Appends, Keeps}
use Rattle.std.proofs.KnownBytes.{Appends-kept}
use Rattle.sy_relp.specs.Frames.{IsCommand, IsFrame, frame, stream}
use Rattle.sy_relp.proofs.Lists.{all_append}
use Rattle.sy_relp.specs.Answers.{syslog}
use Rattle.sy_relp.specs.Exchanges.{numbered}
use Rattle.sy_relp.specs.internal.Streams.{AppendsFront}

-- the next of a list, seen through a function
pub next_of : {X Y : Type 0} (f : X → Y) (xs : List X) (k : ℕ) (x : X) → k < length xs → x ≡ get_or xs k x → take (k + 1) (map f xs) ≡ take k (map f xs) ++ f x ∷ []
next_of f xs k x within is =
    let size : k < length (map f xs) = omega (arith, within, length-map xs f) in
    take_more (map f xs) k (f x) size ∙ ap (λ y. take k (map f xs) ++ y ∷ []) (get_or-map f xs k x (f x) within ∙ ap f (sym is))

some_left : (bytes : List ℕ) (at : ℕ) → at < length bytes → drop at bytes ≢ []
some_left bytes at within e = let size = ap length e in omega (arith, within, size, length-drop at bytes)

-- a write failed after some of the bytes
pub writes_front : (a b c : Option (List ℕ)) (bytes : List ℕ) (at : ℕ) → at < length bytes → Appends a b (take at bytes) → Keeps b c → AppendsFront a c bytes
writes_front a b c bytes at within wrote kept =
    record {
      front = take at bytes;
      is_front = record { rest = drop at bytes; goes_on = some_left bytes at within; joined = sym (take-append-drop at bytes) };
      wrote = Appends-kept a b c (take at bytes) wrote kept;
    }

-- no byte is left
pub writes_whole : (a b : Option (List ℕ)) (bytes : List ℕ) (at : ℕ) → at ≤ length bytes → length bytes ≤ at → Appends a b (take at bytes) → Appends a b bytes
writes_whole a b bytes at within past wrote =
    let all : take at bytes ≡ bytes = take_all at bytes past in
    rw all at wrote

pub numbered_append : (t : ℕ) (xs ys : List Said) → numbered t (xs ++ ys) ≡ numbered t xs ++ numbered (t + length xs) ys
numbered_append t [] ys = let same : t ≡ t + 0 = omega arith in ap (λ n. numbered n ys) same
numbered_append t (x ∷ xs) ys =
    let next : (t + 1) + length xs ≡ t + length (x ∷ xs) = omega arith in
    ap (λ z. syslog t x.raw ∷ z) (numbered_append (t + 1) xs ys ∙ ap (λ n. numbered (t + 1) xs ++ numbered n ys) next)

pub bytes_append : (t : ℕ) (xs ys : List Said) → stream (numbered t (xs ++ ys)) ≡ stream (numbered t xs) ++ stream (numbered (t + length xs) ys)
bytes_append t xs ys = ap stream (numbered_append t xs ys) ∙ flat_map-append frame (numbered t xs) (numbered (t + length xs) ys)

pub bytes_next : (t : ℕ) (ys : List Said) (k : ℕ) (m : Said) → k ≤ length ys → take (k + 1) ys ≡ take k ys ++ m ∷ [] → stream (numbered t (take (k + 1) ys)) ≡ stream (numbered t (take k ys)) ++ frame (syslog (t + k) m.raw)
bytes_next t ys k m within next =
    let size : t + length (take k ys) ≡ t + k = omega (arith, length-take-le k ys within) in
    ap (λ z. stream (numbered t z)) next ∙ bytes_append t (take k ys) (m ∷ []) ∙ ap (λ n. stream (numbered t (take k ys)) ++ stream (numbered n (m ∷ []))) size ∙ ap (λ z. stream (numbered t (take k ys)) ++ z) (append-nil (frame (syslog (t + k) m.raw)))

-- a message of a lawful size is a frame
syslog_is_command : IsCommand (codes "syslog")
syslog_is_command = record { some = omega arith; short = omega arith; letters = (inr (omega arith, omega arith), (inr (omega arith, omega arith), (inr (omega arith, omega arith), (inr (omega arith, omega arith), (inr (omega arith, omega arith), (inr (omega arith, omega arith), tt)))))) }

each_append : (t : ℕ) (xs ys : List Said) → AllByRecursion IsFrame (numbered t xs) → AllByRecursion IsFrame (numbered (t + length xs) ys) → AllByRecursion IsFrame (numbered t (xs ++ ys))
each_append t xs ys p q = rw (numbered_append t xs ys) (all_append IsFrame (numbered t xs) (numbered (t + length xs) ys) p q)

pub each_then : (t n : ℕ) (xs ys : List Said) → n ≡ t + length xs → AllByRecursion IsFrame (numbered t xs) → AllByRecursion IsFrame (numbered n ys) → AllByRecursion IsFrame (numbered t (xs ++ ys))
each_then t n xs ys is p q = each_append t xs ys p (rw is at q)

pub each_next : (t : ℕ) (ys : List Said) (k : ℕ) (m : Said) → k ≤ length ys → take (k + 1) ys ≡ take k ys ++ m ∷ [] → t + k ≤ 999999999 → length m.raw ≤ 65536 → AllByRecursion IsFrame (numbered t (take k ys)) → AllByRecursion IsFrame (numbered t (take (k + 1) ys))
each_next t ys k m within next number size all =
    let place : t + length (take k ys) ≡ t + k = omega (arith, length-take-le k ys within) in
    let last : IsFrame (syslog (t + length (take k ys)) m.raw) = record { txnr = omega (arith, place, number); command = syslog_is_command; size = size } in
    rw next (each_append t (take k ys) (m ∷ []) all (last, tt))

-- the frames of the first of some
pub bytes_front : (t : ℕ) (ys : List Said) (count sent : ℕ) → count ≤ sent → (more : List ℕ) × (stream (numbered t (take sent ys)) ≡ stream (numbered t (take count ys)) ++ more)
bytes_front t ys count sent le =
    let size : sent ≡ count + (sent - count) = omega (arith, le) in (
      stream (numbered (t + length (take count ys)) (take (sent - count) (drop count ys))),
      ap (λ n. stream (numbered t (take n ys))) size ∙ ap (λ z. stream (numbered t z)) (take-add count (sent - count) ys) ∙ bytes_append t (take count ys) (take (sent - count) (drop count ys)),
    )

pub take_over : {A : Type 0} (xs ys : List A) (k : ℕ) → take (length xs + k) (xs ++ ys) ≡ xs ++ take k ys
take_over [] ys k = let same : 0 + k ≡ k = omega arith in ap (λ n. take n ys) same
take_over (x ∷ xs) ys k = let next : length (x ∷ xs) + k ≡ suc (length xs + k) = omega arith in ap (λ n. take n (x ∷ (xs ++ ys))) next ∙ ap (λ z. x ∷ z) (take_over xs ys k)
