use Rattle.std.proofs.Common.{take}
use Rattle.sy_fit.specs.Acceptance.{ArePairsAt}
use Rattle.sy_fit.proofs.accepted.pairs_at.Given as goal

abbrev pub invariant-loop-pair : goal.invariant-loop-pair
invariant-loop-pair l = ArePairsAt (take l.pair-index l.pairs) l.fn.relay l.found.items
