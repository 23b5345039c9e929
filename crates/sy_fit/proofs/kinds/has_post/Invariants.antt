use Rattle.sy_fit.proofs.Feeding.{HasNoneBelow}
use Rattle.sy_fit.proofs.kinds.has_post.Given as goal

abbrev pub invariant-loop-list : goal.invariant-loop-list
invariant-loop-list l = HasNoneBelow l.plan l.queue l.list
