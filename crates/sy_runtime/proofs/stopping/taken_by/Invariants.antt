use Rattle.std.proofs.Common.{◌≡◌, sum_by, take}
use Rattle.sy_runtime.proofs.stopping.taken_by.Given as goal

abbrev pub invariant-loop-end : goal.invariant-loop-end
invariant-loop-end l = l.taken ≡ sum_by (λ e. e.took) (take l.end-index l.ends)
