-- Bytes as a terminal may show them (this profile's own).
use Rattle.std.specs.Prelude.{ℕ, ◌+◌, ◌-◌, ◌/◌, ◌%◌, ◌&&◌, not, List, [], ◌∷◌, nat_eq, leb, if◌then◌else◌}
use Rattle.sy_wire.specs.Characters.{escape}

-- 0 to 9, a to f
abbrev pub hexadecimal : ℕ → ℕ
hexadecimal n = if leb 10 n then (if leb 16 n then 63 else 97 + (n - 10)) else 48 + n

-- %d32-126 but a backslash as they are; others as a backslash, an x and two hexadecimal digits
abbrev pub shown_byte : ℕ → List ℕ
shown_byte b =
    if leb 32 b && (leb b 126 && not (nat_eq b escape)) then b ∷ []
    else escape ∷ 120 ∷ hexadecimal (b / 16) ∷ hexadecimal (b % 16) ∷ []
