-- Bytes that are written as they are.
use Rattle.std.specs.Prelude.{◌≡◌, ⊤, ℕ, ◌==◌, Bool, true, not, ◌&&◌, List, [], ◌∷◌}
use Rattle.sy_escapes.specs.Escapes.{hash, is_control}

-- a byte is written as it is, whatever comes after it
abbrev pub is_plain : ℕ → Bool
is_plain b = not (is_control b) && not (b == hash)

abbrev pub ArePlain : List ℕ → Type 0
ArePlain [] = ⊤
ArePlain (b ∷ later) = (is_plain b ≡ true) × ArePlain later
