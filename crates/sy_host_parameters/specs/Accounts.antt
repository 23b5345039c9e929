-- The tables of accounts, passwd(5) and group(5): each line is an account, and a colon ends a field. The first field is the account's name, the third
-- its number.
use Rattle.std.specs.Prelude.{ℕ, ◌==◌, Bool, List, slice_get, Option, None, Some}
use Rattle.std.specs.List.{find, slice_split}
use Rattle.sy_wire.specs.Numbers.{number_up_to}
use Rattle.sy_script.specs.Bytes.{line_feed}
use Rattle.sy_host_parameters.specs.HostParameters.{is_value}

abbrev pub lines_of : List ℕ → List (List ℕ)
lines_of table = slice_split (λ b. b == line_feed) table

abbrev pub fields : List ℕ → List (List ℕ)
fields line = slice_split (λ b. b == 58) line

-- a line is the account of this name
abbrev pub is_of : (name line : List ℕ) → Bool
is_of name line = is_value name (slice_get (fields line) 0)

abbrev pub number_of : Option (List ℕ) → Option ℕ
number_of None = None
number_of (Some field) = number_up_to 4294967294 field

abbrev pub number_in : Option (List ℕ) → Option ℕ
number_in None = None
number_in (Some line) = number_of (slice_get (fields line) 2)

-- the number of the first account of this name; none where there is none, or where its third field is no number of an account
abbrev pub account_number : (table name : List ℕ) → Option ℕ
account_number table name = number_in (find (is_of name) (lines_of table))
