use Rattle.std.proofs.Common.{◌≤◌, ◌-◌, length}
use Rattle.sy_rules.proofs.lists.columns.column_of.Given as goal

abbrev pub invariant-loop-other : goal.invariant-loop-other
invariant-loop-other l = l.column ≤ length l.classes

abbrev pub decreases-loop-other : goal.decreases-loop-other
decreases-loop-other l = length l.classes - l.column
