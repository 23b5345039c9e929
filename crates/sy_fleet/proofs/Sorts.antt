-- A part of a list, by its number.
use Rattle.std.proofs.Common.{ℕ, zero, suc, ◌+◌, ◌<◌, List, [], ◌∷◌, get_or, length, arith, subst, sym, inl, inr}
use Rattle.std.specs.Prelude.{slice_get, IfSome, IsSomeAnd}
use Rattle.std.proofs.lemmas.Bool.{cases_eq}

-- what holds of the part at a number holds of the one that is found there
pub at_number : {A : Type 0} (P : A → Type 0) (xs : List A) (k : ℕ) (other : A) → P (get_or xs k other) → IfSome (slice_get xs k) P
at_number P [] k other p = tt
at_number P (x ∷ xs) zero other p = p
at_number P (x ∷ xs) (suc k) other p = at_number P xs k other p

-- and there is one there
pub and_number : {A : Type 0} (P : A → Type 0) (xs : List A) (k : ℕ) (other : A) → k < length xs → P (get_or xs k other) → IsSomeAnd (slice_get xs k) P
and_number P [] k other low p = absurd (omega (arith, low))
and_number P (x ∷ xs) zero other low p = p
and_number P (x ∷ xs) (suc k) other low p = and_number P xs k other (omega (arith, low)) p

-- what holds of all numbers below one, and of that
pub more_below : (P : ℕ → Type 0) (n : ℕ) → P n → ((k : ℕ) → k < n → P k) → (k : ℕ) → k < n + 1 → P k
more_below P n here before k low =
    elim (cases_eq k n) [
      | inl same ↦ subst P (sym same) here
      | inr apart ↦ before k (omega (arith, low, apart))
    ]
