use Rattle.sy_warnings.proofs.Execution.{NoneBefore}
use Rattle.sy_warnings.proofs.holding.executed.Given as goal

abbrev pub invariant-loop-lists : goal.invariant-loop-lists
invariant-loop-lists l = NoneBefore l.site l.by l.at l.number l.all l.lists-index
