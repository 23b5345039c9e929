-- What is at a place of a text.
use Rattle.std.specs.Prelude.{ℕ, Bool, false, nat_lt, if◌then◌else◌, List, length, slice_index}
use Rattle.sy_fleet_text.specs.Classes.{is_in}
use Rattle.sy_fleet_text.specs.declared.classes.Class.{Class}

-- whether a byte of the class is at the place
abbrev pub has : Class → List ℕ → ℕ → Bool
has class text at = if nat_lt at (length text) then is_in class (slice_index text at) else false
