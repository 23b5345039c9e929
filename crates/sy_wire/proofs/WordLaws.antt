-- Cutting a line into words.
use Rattle.std.proofs.Common.{◌≡◌, ℕ, Bool, true, false, zero, suc, ◌+◌, ◌-◌, ◌<◌, ◌==◌, List, [], ◌∷◌, length, get_or, take, drop, Some, None, refl, ap, ◌∙◌, arith, add-one}
use Rattle.std.proofs.lemmas.List.{take_all, length-drop}
use Rattle.std.proofs.lemmas.List.Elements.{All-from_get_or}
use Rattle.std.proofs.lemmas.List.Splits.{slice_split_none, slice_split-cons_yes, slice_split-cons_no}
use Rattle.std.specs.List.{slice_split, onto_first}
use Rattle.memchr.specs.Find.{IsFirstByte, is_byte}
use Rattle.sy_wire.specs.Words.{words_in}

is_false : (b : Bool) → (b ≡ true → ⊥) → b ≡ false
is_false true never = absurd (never refl)
is_false false never = refl

split_found : (p : ℕ → Bool) (at : ℕ) (bytes : List ℕ) → at < length bytes → ((k : ℕ) → k < at → p (get_or bytes k 0) ≡ true → ⊥)
    → p (get_or bytes at 0) ≡ true
    → slice_split p bytes ≡ take at bytes ∷ slice_split p (drop (suc at) bytes)
split_found p at [] within before here = absurd (omega arith)
split_found p zero (b ∷ bytes) within before here = slice_split-cons_yes p b bytes here
split_found p (suc at) (b ∷ bytes) within before here =
    slice_split-cons_no p b bytes (is_false (p b) (before 0 (omega arith)))
    ∙ ap (onto_first b) (split_found p at bytes (omega arith) (λ k h. before (suc k) (omega arith)) here)

-- what is behind a place, as a slice has it
behind_is : (at : ℕ) (bytes : List ℕ) → take (length bytes - (at + 1)) (drop (at + 1) bytes) ≡ drop (suc at) bytes
behind_is at bytes = take_all _ _ (omega (arith, length-drop (at + 1) bytes)) ∙ rw (add-one at) refl

pub split_first : (bytes : List ℕ) (at : ℕ) → IsFirstByte (is_byte 32) bytes (Some at)
    → words_in bytes ≡ take at bytes ∷ words_in (take (length bytes - (at + 1)) (drop (at + 1) bytes))
split_first bytes at h =
    rw (behind_is at bytes) (split_found (is_byte 32) at bytes h.0.high (λ k low. h.0.before k (omega arith) low) h.1)

pub split_none : (bytes : List ℕ) → IsFirstByte (is_byte 32) bytes None → words_in bytes ≡ bytes ∷ []
split_none bytes h =
    slice_split_none (is_byte 32) bytes (All-from_get_or (λ b. (b == 32) ≡ false) bytes 0 (λ i low. is_false (get_or bytes i 0 == 32) (h i (omega arith) low)))
