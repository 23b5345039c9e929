use Rattle.std.proofs.Common.{◌≡◌, ◌+◌, ◌-◌, ◌*◌}
use Rattle.sy_script.specs.internal.ReadingExpr.{unit, chain, chain_from}
use Rattle.sy_script.proofs.reader.Reader.+expr.Given as goal

abbrev pub decreases-group : goal.decreases-group
decreases-group l = 8 * l.left

abbrev pub decreases-negation : goal.decreases-negation
decreases-negation l = 8 * l.place.left + 1

abbrev pub decreases-unit : goal.decreases-unit
decreases-unit l = 8 * l.place.left + 2

abbrev pub decreases-chain : goal.decreases-chain
decreases-chain l = 8 * l.place.left + 3

abbrev pub decreases-expr : goal.decreases-expr
decreases-expr l = 8 * l.place.left + 4

abbrev pub invariant-chain-loop-turn : goal.invariant-chain-loop-turn
invariant-chain-loop-turn l = chain l.self.text.now l.place.left l.place.opened l.joint l.fn.start l.tokens ≡ chain_from l.joint (unit l.self.text.now l.place.left l.place.opened) (l._turn-end - l._turn) l.parts l.rest
