use Rattle.std.proofs.Common.{◌-◌}
use Rattle.sy_fit.proofs.Risky.{IsSafeBelow}
use Rattle.sy_fit.proofs.kinds.list_risks.Given as goal

abbrev pub invariant-loop-number : goal.invariant-loop-number
invariant-loop-number l = IsSafeBelow l.site l.class l.relay l.list l.may l.risk l.from

abbrev pub decreases-loop-number : goal.decreases-loop-number
decreases-loop-number l = 64 - l.from
