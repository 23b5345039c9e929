use Rattle.std.proofs.Common.{◌≡◌, length, map}
use Rattle.sy_rules.specs.Faults.{first}
use Rattle.sy_rules.specs.parameters.Values.{missing}
use Rattle.sy_rules.specs.parameters.RowViews.{row_of}
use Rattle.sy_rules.proofs.parameters.flaws.first_missing.Given as goal

abbrev pub invariant-loop-rows : goal.invariant-loop-rows
invariant-loop-rows l = first (missing (map row_of l.rows) l.params) ≡ first (missing (map row_of l.initial.rows) l.params)

abbrev pub decreases-loop-rows : goal.decreases-loop-rows
decreases-loop-rows l = length l.rows
