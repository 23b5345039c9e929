-- Places of lists.
use Rattle.std.proofs.Common.{[], ◌≡◌, ℕ, suc, ◌<◌, List, ◌∷◌, Some, length, refl, sym, ap, subst, arith, ◌∙◌, inl, inr, ◌+◌, Bool, true, false, ◌||◌, get_or}
use Rattle.std.specs.Prelude.{Contains, slice_get}
use Rattle.std.proofs.lemmas.Bool.{cases_eq}
use Rattle.std.proofs.lemmas.Option.{slice_get-get_or}
use Rattle.std.specs.List.{list_any}

-- ---- lists
pub at_place : {A : Type 0} (xs : List A) (x : A) → Contains xs x → (k : ℕ) × (slice_get xs k ≡ Some x)
at_place xs x (k, low, is) = (k, slice_get-get_or xs k x low ∙ ap Some is)

pub some_at : {A : Type 0} (p : A → Bool) (xs : List A) (d : A) (k : ℕ) → k < length xs → p (get_or xs k d) ≡ true → list_any p xs ≡ true
some_at p [] d k low e = absurd (omega (arith, low))
some_at p (x ∷ xs) d ℕ.zero low e = ap (λ b. b || list_any p xs) e
some_at p (x ∷ xs) d (ℕ.suc k) low e = ap (λ b. p x || b) (some_at p xs d k (omega (arith, low)) e) ∙ or_true (p x)
  where
    or_true : (b : Bool) → (b || true) ≡ true
    or_true true = refl
    or_true false = refl

-- ---- one after another
pub more_below : (P : ℕ → Type 0) (n : ℕ) → P n → ((k : ℕ) → k < n → P k) → (k : ℕ) → k < n + 1 → P k
more_below P n here before k low =
    elim (cases_eq k n) [
      | inl same ↦ subst P (sym same) here
      | inr apart ↦ before k (omega (arith, low, apart))
    ]
