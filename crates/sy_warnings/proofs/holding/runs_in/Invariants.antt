use Rattle.sy_rules.specs.declared.lists.occurrence.Occurrence.TheVariants as occurrence
use Rattle.sy_warnings.specs.Following.{IsExecuted}
use Rattle.sy_warnings.proofs.Execution.{NotBelow}
use Rattle.sy_warnings.proofs.holding.runs_in.Given as goal

abbrev pub invariant-loop-number : goal.invariant-loop-number
invariant-loop-number l = NotBelow (λ number. IsExecuted l.site l.by l.at number (occurrence.Run l.action)) l.number
