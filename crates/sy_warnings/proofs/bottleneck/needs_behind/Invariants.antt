use Rattle.sy_warnings.specs.internal.Holding.{NeedsLater}
use Rattle.sy_warnings.proofs.Execution.{NotBelow}
use Rattle.sy_warnings.proofs.bottleneck.needs_behind.Given as goal

abbrev pub invariant-loop-later : goal.invariant-loop-later
invariant-loop-later l = NotBelow (λ later. NeedsLater l.site l.class l.at l.number later) l.later
