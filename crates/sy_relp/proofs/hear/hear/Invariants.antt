use Rattle.std.proofs.Common.{◌≤◌, ◌-◌}
use Rattle.sy_relp.proofs.Heard.{HeardSoFar}
use Rattle.sy_relp.proofs.hear.hear.Given as goal

abbrev pub invariant-loop-count : goal.invariant-loop-count
invariant-loop-count g l = record {
  within : l.count ≤ l.wanted;
  so_far : HeardSoFar (g.R.Source.remaining l.initial.reader) (g.R.Source.remaining l.reader) l.initial.frames.left l.frames.left l.first l.count;
}

abbrev pub decreases-loop-count : goal.decreases-loop-count
decreases-loop-count g l = l.wanted - l.count
