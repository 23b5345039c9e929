use Rattle.std.proofs.Common.{◌+◌, ◌≤◌, length, ◌-◌}
use Rattle.sy_fleet_text.specs.Stretches as spec
use Rattle.sy_fleet_text.proofs.scan.comment_end.Given as goal

abbrev pub invariant-loop-at : goal.invariant-loop-at
invariant-loop-at l = (l.start + 2 ≤ l.at) × (l.at ≤ length l.text) × spec.NoEnd l.text (l.start + 2) l.at

abbrev pub decreases-loop-at : goal.decreases-loop-at
decreases-loop-at l = length l.text - l.at
