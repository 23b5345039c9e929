use Rattle.std.proofs.Common.{◌≡◌, length, map}
use Rattle.sy_host_parameters.specs.HostParameters.{lookup}
use Rattle.sy_host_parameters.specs.internal.Views.{row_of}
use Rattle.sy_host_parameters.proofs.rows.row_named.Given as goal

abbrev pub invariant-loop-rows : goal.invariant-loop-rows
invariant-loop-rows l = lookup l.name (map row_of l.rows) ≡ lookup l.name (map row_of l.initial.rows)

abbrev pub decreases-loop-rows : goal.decreases-loop-rows
decreases-loop-rows l = length l.rows
