use Rattle.sy_warnings.specs.internal.Holding.{StandsAt}
use Rattle.sy_warnings.proofs.Execution.{NotBelow}
use Rattle.sy_warnings.proofs.bottleneck.stands_before.Given as goal

abbrev pub invariant-loop-number : goal.invariant-loop-number
invariant-loop-number l = NotBelow (λ number. StandsAt l.site l.class l.at l.action number) l.number
