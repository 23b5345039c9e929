use Rattle.sy_warnings.specs.internal.Holding.{SharesIn}
use Rattle.sy_warnings.proofs.Execution.{NotBelow}
use Rattle.sy_warnings.proofs.holding.shared_worker_in.Given as goal

abbrev pub invariant-loop-list : goal.invariant-loop-list
invariant-loop-list l = NotBelow (λ list. SharesIn l.site l.relay list l.action) l.list
