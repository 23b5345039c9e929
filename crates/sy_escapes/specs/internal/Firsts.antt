-- What comes first in the text of a line.
use Rattle.std.specs.Prelude.{ℕ, ◌+◌, ◌-◌, ◌*◌, ◌==◌, ◌&&◌, if◌then◌else◌, List, [], ◌∷◌, drop, Option, Some, None}
use denote.Ref.{Bor}
use Rattle.sy_escapes.specs.Escapes.{begins_octal, hash, is_control, is_escaped}

-- the number that three octal digits write
abbrev pub code : List ℕ → ℕ
code (a ∷ b ∷ c ∷ later) = ((a - 48) * 8 + (b - 48)) * 8 + (c - 48)
code _ = 0

abbrev pub found : ℕ → List ℕ → Option (ℕ × List ℕ)
found n later = Some (n, later)

abbrev pub by_escape : ℕ → List ℕ → Option (ℕ × List ℕ)
by_escape n later = if is_escaped n later then found n later else None

-- the byte that comes first, and what is left; none where no message's text begins so
abbrev pub first_of : List ℕ → Option (ℕ × List ℕ)
first_of [] = None
first_of (b ∷ later) =
    if (b == hash) && begins_octal later then by_escape (code later) (drop 3 later)
    else (if is_control b then None else found b later)

-- what the code has of it
abbrev pub found_by : Option (ℕ × Bor (List ℕ)) → Option (ℕ × List ℕ)
found_by None = None
found_by (Some p) = found p.0 p.1.now
