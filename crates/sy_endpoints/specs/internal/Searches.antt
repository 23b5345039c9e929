-- Numbers, as they are looked through one after the other.
use Rattle.std.specs.Prelude.{ℕ, ◌<◌}

-- It holds of none that is lower.
abbrev pub NoneBelow : (ℕ → Type 0) → ℕ → Type 0
NoneBelow P number = (lower : ℕ) → lower < number → P lower → ⊥
