use Rattle.std.proofs.Common.{take}
use Rattle.sy_fit.proofs.Risky.{AreSafe}
use Rattle.sy_fit.proofs.kinds.posted_risks.Given as goal

abbrev pub invariant-loop-list : goal.invariant-loop-list
invariant-loop-list l = AreSafe l.site l.class l.input.relay l.risk (take l.list-index l.list-items)
