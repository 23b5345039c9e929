-- What is handed on and kept, step by step.
use Rattle.std.proofs.Common.{◌≡◌, ℕ, zero, suc, ◌+◌, ◌-◌, ◌≤◌, inl, inr, Bool, true, false, List, [], ◌∷◌, ◌++◌, length, take, drop, sym, ap, ◌∙◌, arith}
use Rattle.std.specs.Prelude.{min}
use Rattle.std.specs.Fmt.{decimal}
use Rattle.std.proofs.lemmas.List.{append_assoc, append-nil, length-take-le, take-append-drop, drop-drop}
use Rattle.std.proofs.Math.Seq.{take-add}
use Rattle.sy_wire.specs.Characters.{space}
use Rattle.sy_unread.specs.Skipping.{Goes, Kept, next_number, rests, frame, passes, keeps, skips, strays, ends, follows}
use Rattle.sy_unread.specs.internal.Fronts.{Passes, Starts, begun}
use Rattle.sy_unread.specs.declared.skipping.place.Place.{Place}
use Rattle.sy_unread.specs.declared.skipping.place.Place.TheVariants.{Within}

abbrev regroup : (a b c : List ℕ) → (x : List ℕ) → x ≡ a ++ b → x ++ c ≡ a ++ (b ++ c)
regroup a b c x e = ap (λ y. y ++ c) e ∙ append_assoc a b c

-- what is after a step is after both
pub goes_on :
    {t : Bool} {k k' k'' : ℕ} {p q r : Place} {bytes left left' out out' : List ℕ} {kept kept' : List Kept}
    → Goes t k p bytes out kept k' q left → Goes t k' q left out' kept' k'' r left' → Goes t k p bytes (out ++ out') (kept ++ kept') k'' r left'
goes_on rests g = g
goes_on (frame n rest size e f) g = frame n rest size e (goes_on f g)
goes_on (passes text rest out fits e all f) g = passes text rest (out ++ _) fits e (regroup text out _ _ all) (goes_on f g)
goes_on (keeps n text rest is size e f) g = keeps n text rest is size e (goes_on f g)
goes_on (skips text rest fits e f) g = skips text rest fits e (goes_on f g)
goes_on (strays came rest is e f) g = strays came rest is e (goes_on f g)
goes_on (ends over is f) g = ends over is (goes_on f g)
goes_on (follows text rest out e all f) g = follows text rest (out ++ _) e (regroup text out _ _ all) (goes_on f g)

-- where the stream isn't over, more bytes may follow
pub goes_before :
    {t : Bool} {k k' : ℕ} {p q : Place} {bytes left out : List ℕ} {kept : List Kept} (more : List ℕ)
    → Goes false k p bytes out kept k' q left → Goes t k p (bytes ++ more) out kept k' q (left ++ more)
goes_before more rests = rests
goes_before more (frame n rest size e f) = frame n (rest ++ more) size (regroup (decimal n) (space ∷ rest) more _ e) (goes_before more f)
goes_before more (passes text rest out fits e all f) = passes text (rest ++ more) out fits (regroup text rest more _ e) all (goes_before more f)
goes_before more (keeps n text rest is size e f) =
    keeps n text (rest ++ more) is size (regroup (decimal n) (space ∷ (text ++ rest)) more _ e ∙ ap (λ x. decimal n ++ space ∷ x) (append_assoc text rest more)) (goes_before more f)
goes_before more (skips text rest fits e f) = skips text (rest ++ more) fits (regroup text rest more _ e) (goes_before more f)
goes_before more (strays came rest is e f) = strays came (rest ++ more) is (regroup came rest more _ e) (goes_before more f)
goes_before more (ends over is f) = absurd (let never : false ≡ true = over in cc)
goes_before more (follows text rest out e all f) = follows text (rest ++ more) out (regroup text rest more _ e) all (goes_before more f)

-- so many bytes of a frame pass
pub pass_some : (c size k : ℕ) (bytes : List ℕ) → k ≤ size → k ≤ length bytes → Goes false c (Within size) bytes (take k bytes) [] c (Within (size - k)) (drop k bytes)
pass_some c size k bytes fits inside =
    let sized : length (take k bytes) ≡ k = length-take-le k bytes inside in
    passes (take k bytes) (drop k bytes) [] (omega (arith, sized)) (sym (take-append-drop k bytes)) (sym (append-nil (take k bytes)))
    (rw sized rests)

-- the same where it begins
pub start_some : (c left size k : ℕ) (bytes : List ℕ) → Starts left bytes size → k ≤ size → k ≤ length bytes
    → Goes false c (Within left) bytes (take k bytes) [] (begun left c) (Within (size - k)) (drop k bytes)
start_some c zero size k bytes (some, inl inside) fits within = absurd (omega (arith, inside.0))
start_some c (suc left) size k bytes (some, inl inside) fits within = rw (← inside.1) (pass_some c size k bytes fits within)
start_some c left size k bytes (some, inr begins) fits within =
    let head = begins.4 in
    let all : size ≡ length (decimal begins.1) + 1 + begins.1 = omega (arith, begins.5, head.from_is) in
    let rest_goes : Goes false (next_number c) (Within (length (decimal begins.1) + 1 + begins.1)) bytes (take k bytes) [] (next_number c) (Within (size - k)) (drop k bytes) = rw (← all) (pass_some (next_number c) size k bytes fits within) in
    let goes : Goes false c (Within 0) bytes (take k bytes) [] (begun 0 c) (Within (size - k)) (drop k bytes) = frame begins.1 head.rest begins.3 head.whole rest_goes in
    rw begins.0 goes

-- a frame's bytes, as far as they came
pub passes_more : (c c' within at left size k : ℕ) (bytes : List ℕ)
    → Passes c within bytes at c' left → at ≤ length bytes → k ≡ min size (length (drop at bytes)) → Starts left (drop at bytes) size
    → Passes c within bytes (at + k) (begun left c') (size - k)
passes_more c c' within at left size k bytes so_far inside count starts =
    let fits : k ≤ size = omega (arith, count) in
    let within_all : k ≤ length (drop at bytes) = omega (arith, count) in
    let both = goes_on so_far (start_some c' left size k (drop at bytes) starts fits within_all) in
    rw (take-add at k bytes, ← drop-drop k at bytes) both
