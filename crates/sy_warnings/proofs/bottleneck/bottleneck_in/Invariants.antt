use Rattle.sy_warnings.specs.internal.Holding.{StandsForSome}
use Rattle.sy_warnings.proofs.Execution.{NotBelow}
use Rattle.sy_warnings.proofs.bottleneck.bottleneck_in.Given as goal

abbrev pub invariant-loop-list : goal.invariant-loop-list
invariant-loop-list l = NotBelow (λ list. StandsForSome l.site (record { relay = l.relay; list = list }) l.action) l.list
