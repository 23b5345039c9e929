use Rattle.std.proofs.Common.{◌≡◌, length, map}
use Rattle.sy_rules.specs.parameters.Rows.{lookup}
use Rattle.sy_rules.specs.parameters.RowViews.{row_of}
use Rattle.sy_rules.proofs.parameters.by_name.find_in.Given as goal

abbrev pub invariant-loop-rows : goal.invariant-loop-rows
invariant-loop-rows l = lookup (map row_of l.rows) l.name ≡ lookup (map row_of l.initial.rows) l.name

abbrev pub decreases-loop-rows : goal.decreases-loop-rows
decreases-loop-rows l = length l.rows
