-- Decimal numbers, as texts write them.
use Rattle.std.specs.Prelude.{ℕ, Bool, not, ◌&&◌, ◌==◌, nat_le, if◌then◌else◌, List, length, Option, Some, None}
use Rattle.std.specs.Char.{is_ascii_digit}
use Rattle.std.specs.List.{list_all}
use Rattle.std.specs.Str.Parse.{digits_value}

-- One digit or more, and nothing else.
abbrev pub is_numeral : List ℕ → Bool
is_numeral digits = not (length digits == 0) && list_all is_ascii_digit digits

-- The number that decimal digits write, where it is no more than the most. Zeros may stand before it.
abbrev pub number_up_to : ℕ → List ℕ → Option ℕ
number_up_to most digits = if is_numeral digits && nat_le (digits_value 10 digits) most then Some (digits_value 10 digits) else None
