use Rattle.sy_warnings.specs.internal.Holding.{SharesWith}
use Rattle.sy_warnings.proofs.Execution.{NotBelow}
use Rattle.sy_warnings.proofs.holding.shares.Given as goal

abbrev pub invariant-loop-other : goal.invariant-loop-other
invariant-loop-other l = NotBelow (SharesWith l.site l.relay l.list) l.other
