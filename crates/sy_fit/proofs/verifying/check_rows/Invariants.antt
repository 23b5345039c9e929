use Rattle.std.proofs.Common.{drop, take}
use Rattle.sy_fit.specs.Acceptance.{AreReached}
use Rattle.sy_fit.specs.internal.Verifying.{AreDone}
use Rattle.sy_flows.specs.Walks.{AreWalks}
use Rattle.sy_fit.proofs.verifying.check_rows.Given as goal

abbrev pub invariant-loop-class : goal.invariant-loop-class
invariant-loop-class l = AreDone l.site l.classes l.rows (drop l.class-index l.classes) l.done × AreReached l.site (take l.class-index l.classes) l.pairs.items × AreWalks l.site l.walks.items
