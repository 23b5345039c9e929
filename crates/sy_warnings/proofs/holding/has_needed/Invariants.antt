use Rattle.sy_warnings.specs.internal.Holding.{NeedsAt}
use Rattle.sy_warnings.proofs.Execution.{NotBelow}
use Rattle.sy_warnings.proofs.holding.has_needed.Given as goal

abbrev pub invariant-loop-number : goal.invariant-loop-number
invariant-loop-number l = NotBelow (NeedsAt l.site l.at) l.number
