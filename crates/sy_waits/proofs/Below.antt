-- What holds of all numbers below one, and of one more.
use Rattle.std.proofs.Common.{ℕ, ◌<◌, ◌≡◌, ◌+◌, arith, inl, inr, subst, sym}
use Rattle.std.specs.Prelude.{◌⊎◌}
use Rattle.std.proofs.lemmas.Bool.{cases_eq}

abbrev pub AllBelow : (ℕ → Type 0) → ℕ → Type 0
AllBelow P most = (k : ℕ) → k < most → P k

pub none_below : (P : ℕ → Type 0) → AllBelow P 0
none_below P k low = absurd (omega (arith, low))

pub one_more_below : (P : ℕ → Type 0) (most : ℕ) → AllBelow P most → P most → AllBelow P (most + 1)
one_more_below P most before last k low = elim (cases_eq k most) [
  | inl same ↦ subst P (sym same) last
  | inr apart ↦ before k (omega (arith, low, apart))
]
