-- How far a line is read.
use Rattle.std.specs.Prelude.{◌≡◌, ℕ, List, ◌++◌}
use Rattle.sy_escapes.specs.Escapes.{escaped}

-- a line is that of these bytes and those of what is left, and of no others
pub record Reads (line bytes rest : List ℕ) : Type 0 where
  pub whole : (later : List ℕ) → escaped later ≡ rest → escaped (bytes ++ later) ≡ line
  pub only : (all : List ℕ) → escaped all ≡ line → (later : List ℕ) × (all ≡ bytes ++ later) × (escaped later ≡ rest)
