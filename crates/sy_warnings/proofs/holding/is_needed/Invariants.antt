use Rattle.sy_warnings.specs.declared.following.Following.TheVariants as following
use Rattle.sy_warnings.specs.internal.Holding.{RunsIn}
use Rattle.sy_warnings.proofs.Execution.{NotBelow}
use Rattle.sy_warnings.proofs.holding.is_needed.Given as goal

abbrev pub invariant-loop-list : goal.invariant-loop-list
invariant-loop-list l = NotBelow (λ list. RunsIn l.site following.Firm (record { relay = l.relay; list = list }) l.action) l.list
