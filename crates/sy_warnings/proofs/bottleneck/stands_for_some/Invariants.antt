use Rattle.sy_warnings.specs.internal.Holding.{StandsIn}
use Rattle.sy_warnings.proofs.Execution.{NoClass}
use Rattle.sy_warnings.proofs.bottleneck.stands_for_some.Given as goal

abbrev pub invariant-loop-lists : goal.invariant-loop-lists
invariant-loop-lists l = NoClass (λ class. StandsIn l.site class l.at l.action) l.firm l.lists-index
