-- Bits of a severity set: the bit s is for severity s.
use Rattle.std.specs.Prelude.{ℕ, Bool, ◌==◌}
use Rattle.std.specs.Int.{bit_at}

abbrev pub has_bit : ℕ → ℕ → Bool
has_bit mask s = bit_at mask s == 1
