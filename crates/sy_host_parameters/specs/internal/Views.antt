-- The rows that the code has, as rows of the table.
use Rattle.std.specs.Prelude.{Option, Some, None}
use denote.Ref.{Bor}
use Rattle.sy_host_parameters.specs.declared.rows.HostRow.{HostRow}
use Rattle.sy_host_parameters.specs.declared.rows.Values.{Values}
use Rattle.sy_host_parameters.specs.declared.rows.Values.TheVariants as values
use Rattle.sy_host_parameters.specs.HostParameters as table

abbrev pub values_of : Values → table.Values
values_of values.Switch = table.Values.Switch
values_of (values.Number lowest highest) = table.Values.Number lowest highest
values_of values.Mode = table.Values.Mode
values_of values.Kind = table.Values.Kind
values_of values.Name = table.Values.Name

abbrev pub row_of : HostRow → table.Row
row_of r = table.row r.name.now r.parameter (values_of r.values)

abbrev pub found : Option (Bor HostRow) → Option table.Row
found None = None
found (Some r) = Some (row_of r.now)
