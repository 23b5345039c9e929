use Rattle.std.proofs.Common.{◌++◌, ◌∷◌, [], sym, subst}
use Rattle.sy_fit.specs.Acceptance.{ArePairsAt}
use Rattle.sy_fit.proofs.Guarded.{pair_push, pair_skip}
use Rattle.sy_fit.proofs.accepted.push_pair.Goals as goal

pub returns-in_ok-push : goal.returns-in_ok-push
returns-in_ok-push c = λ before are.
    subst (ArePairsAt (before ++ (c.args.input, c.args.class) ∷ []) c.args.relay) (sym c.in_ok-push.ensures.items)
    (pair_push before c.args.relay c.args.found.now.items c.args.input c.args.class are c.if-input-relay.true)

pub returns-else-input-relay : goal.returns-else-input-relay
returns-else-input-relay c = λ before are.
    pair_skip before c.args.relay c.args.found.now.items c.args.input c.args.class are c.if-input-relay.false
