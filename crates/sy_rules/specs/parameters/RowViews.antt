-- The rows that the code has and lends, as rows of the table.
use Rattle.std.specs.Prelude.{List, [], ◌∷◌, ◌++◌, map, Option, Some, None}
use denote.Ref.{Bor}
use Rattle.sy_rules.specs.declared.parameters.rows.Row.{Row}
use Rattle.sy_rules.specs.declared.parameters.rows.Shape.{Shape}
use Rattle.sy_rules.specs.declared.parameters.rows.Shape.TheVariants as shape
use Rattle.sy_rules.specs.declared.parameters.rows.Absent.{Absent}
use Rattle.sy_rules.specs.declared.parameters.rows.Absent.TheVariants as absent
use Rattle.sy_rules.specs.parameters.Rows as table

abbrev pub shape_of : Shape → table.Shape
shape_of (shape.Number lowest highest) = table.Shape.Number lowest highest
shape_of (shape.NumberOrMinusOne lowest highest) = table.Shape.NumberOrMinusOne lowest highest
shape_of (shape.OneOf words) = table.Shape.OneOf (map (λ w. w.now) words.now)
shape_of shape.AnyText = table.Shape.AnyText

abbrev pub absent_of : Absent → table.Absent
absent_of absent.Required = table.Absent.Required
absent_of absent.Nothing = table.Absent.Nothing
absent_of (absent.Word word) = table.Absent.Word word.now
absent_of (absent.Amount n) = table.Absent.Amount n
absent_of (absent.Hundredths n) = table.Absent.Hundredths n

abbrev pub row_of : Row → table.Row
row_of r = table.row r.name.now (shape_of r.shape) (absent_of r.absent)

abbrev pub found : Option (Bor Row) → Option table.Row
found None = None
found (Some r) = Some (row_of r.now)

-- the rows of some tables, one table after the other
abbrev pub joined : List (Bor (List Row)) → List table.Row
joined [] = []
joined (rows ∷ later) = map row_of rows.now ++ joined later
