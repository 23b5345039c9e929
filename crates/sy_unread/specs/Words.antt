-- Words that spaces end.
use Rattle.std.specs.Prelude.{◌≢◌, ℕ, List, [], ◌∷◌, Option, Some, None, nat_eq, if◌then◌else◌}
use Rattle.std.specs.List.{AllByRecursion}
use Rattle.sy_wire.specs.Characters.{space}

-- bytes without a space
abbrev pub IsWord : List ℕ → Type 0
IsWord text = AllByRecursion (λ b. b ≢ space) text

-- a byte more at the front of what was read
abbrev pub with_byte : ℕ → Option (List ℕ × List ℕ) → Option (List ℕ × List ℕ)
with_byte b None = None
with_byte b (Some read) = Some (b ∷ read.0, read.1)

-- the bytes before the first space, and those behind it
unfoldable pub word_at : List ℕ → Option (List ℕ × List ℕ)
word_at [] = None
word_at (b ∷ bytes) = if nat_eq b 32 then Some ([], bytes) else with_byte b (word_at bytes)
