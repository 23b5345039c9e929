use Rattle.std.proofs.Common.{◌≡◌, sum_by, take}
use Rattle.sy_runtime.proofs.standing.runs_left.Given as goal

abbrev pub invariant-loop-counts : goal.invariant-loop-counts
invariant-loop-counts l = l.left ≡ sum_by (λ c. c.left) (take l.counts-index l.actions)
