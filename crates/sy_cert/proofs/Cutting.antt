-- Cutting bytes at a mark, and a line into words.
use Rattle.std.proofs.Common.{◌≡◌, ℕ, Bool, true, false, zero, suc, ◌+◌, ◌-◌, ◌<◌, ◌==◌, List, [], ◌∷◌, ◌++◌, length, get_or, take, drop, Some, None, refl, ap, ◌∙◌, arith, add-one, eqb-true, eq-eqb}
use Rattle.std.proofs.lemmas.List.{take_all, length-drop}
use Rattle.std.proofs.lemmas.List.Splits.{slice_split-cons_yes}
use Rattle.std.specs.List.{slice_split}
use Rattle.memchr.specs.Find.{IsFirstByte, is_byte}
use Rattle.sy_cert.specs.Faults.{Lacks, words_in}
use Rattle.sy_cert.specs.internal.Reading.{IsCut}

is_false : (b : Bool) → (b ≡ true → ⊥) → b ≡ false
is_false true never = absurd (never refl)
is_false false never = refl

found : (mark at : ℕ) (bytes : List ℕ) → at < length bytes → ((k : ℕ) → k < at → (get_or bytes k 0 == mark) ≡ true → ⊥)
    → (get_or bytes at 0 == mark) ≡ true → IsCut mark bytes (take at bytes) (drop (suc at) bytes)
found mark at [] within before here = absurd (omega arith)
found mark zero (b ∷ bytes) within before here = record { whole = ap (λ x. x ∷ bytes) (eqb-true b mark here); lacks = tt }
found mark (suc at) (b ∷ bytes) within before here =
    let later = found mark at bytes (omega arith) (λ k h. before (suc k) (omega arith)) here in
    record { whole = ap (λ x. b ∷ x) later.whole; lacks = (is_false (b == mark) (before 0 (omega arith)), later.lacks) }

-- what is after a place, as a slice has it
behind_is : (at : ℕ) (bytes : List ℕ) → take (length bytes - (at + 1)) (drop (at + 1) bytes) ≡ drop (suc at) bytes
behind_is at bytes = take_all _ _ (omega (arith, length-drop (at + 1) bytes)) ∙ rw (add-one at) refl

pub cut_at : (mark at : ℕ) (bytes : List ℕ) → IsFirstByte (is_byte mark) bytes (Some at)
    → IsCut mark bytes (take at bytes) (take (length bytes - (at + 1)) (drop (at + 1) bytes))
cut_at mark at bytes h = rw (behind_is at bytes) (found mark at bytes h.0.high (λ k low. h.0.before k (omega arith) low) h.1)

pub lacks_all : (mark : ℕ) (bytes : List ℕ) → ((k : ℕ) → k < length bytes → (get_or bytes k 0 == mark) ≡ true → ⊥) → Lacks mark bytes
lacks_all mark [] never = tt
lacks_all mark (b ∷ bytes) never = (is_false (b == mark) (never 0 (omega arith)), lacks_all mark bytes (λ k h. never (suc k) (omega arith)))

pub cut_nowhere : (mark : ℕ) (bytes : List ℕ) → IsFirstByte (is_byte mark) bytes None → Lacks mark bytes
cut_nowhere mark bytes h = lacks_all mark bytes (λ k low. h k (omega arith) low)

-- ---- the parts of bytes

pub onto : (c b : ℕ) (bs w : List ℕ) (later : List (List ℕ)) → (b == c) ≡ false → slice_split (λ x. x == c) bs ≡ w ∷ later
    → slice_split (λ x. x == c) (b ∷ bs) ≡ (b ∷ w) ∷ later
onto c b bs w later h e = rw (h, e) refl

-- a part at the end, and one before a mark
pub split_last : (c : ℕ) (w : List ℕ) → Lacks c w → slice_split (λ x. x == c) w ≡ w ∷ []
split_last c [] h = refl
split_last c (b ∷ bs) h = onto c b bs bs [] h.0 (split_last c bs h.1)

pub split_part : (c : ℕ) (w rest : List ℕ) → Lacks c w → slice_split (λ x. x == c) (w ++ c ∷ rest) ≡ w ∷ slice_split (λ x. x == c) rest
split_part c [] rest h = slice_split-cons_yes (λ x. x == c) c rest (eq-eqb c c refl)
split_part c (b ∷ bs) rest h = onto c b (bs ++ c ∷ rest) bs (slice_split (λ x. x == c) rest) h.0 (split_part c bs rest h.1)

pub cut_words : (line front behind : List ℕ) → IsCut 32 line front behind → words_in line ≡ front ∷ words_in behind
cut_words line front behind h = ap words_in h.whole ∙ split_part 32 front behind h.lacks
