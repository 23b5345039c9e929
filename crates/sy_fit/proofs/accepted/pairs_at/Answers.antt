use Rattle.std.proofs.Common.{subst, take}
use Rattle.std.proofs.lemmas.List.{take_all}
use Rattle.sy_fit.specs.Acceptance.{ArePairsAt}
use Rattle.sy_fit.proofs.Guarded.{take_next}
use Rattle.sy_fit.proofs.accepted.pairs_at.Goals as goal

pub loop-pair-preserved : goal.loop-pair-preserved
loop-pair-preserved c =
    subst (λ l. ArePairsAt l c.args.relay c.push_pair.new.found.items)
    (take_next c.args.pairs.now c.loop-pair.pair-index c.pair-item.result c.loop-pair-test.true c.pair-item.is)
    (c.in_ok-push_pair.ensures (take c.loop-pair.pair-index c.args.pairs.now) c.loop-pair.invariant)

pub returns : goal.returns
returns c =
    subst (λ l. ArePairsAt l c.args.relay c.loop-pair.found.items) (take_all c.loop-pair.pair-index c.args.pairs.now c.loop-pair-test.false)
    c.loop-pair.invariant
