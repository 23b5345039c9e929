use Rattle.std.proofs.Common.{◌≤◌, ◌-◌, length}
use Rattle.sy_unread.specs.internal.Fronts.{Passes}
use Rattle.sy_unread.proofs.skipping.passing.scan.Given as goal

abbrev pub invariant-loop-at : goal.invariant-loop-at
invariant-loop-at l = record {
  within : l.at ≤ length l.bytes;
  passes : Passes l.before l.within l.bytes l.at l.frames l.left;
}

abbrev pub decreases-loop-at : goal.decreases-loop-at
decreases-loop-at l = length l.bytes - l.at
