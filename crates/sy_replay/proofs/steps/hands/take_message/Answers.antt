use Rattle.std.proofs.Common.{◌∙◌, subst}
use Rattle.std.specs.Arc.{arc_value}
use Rattle.sy_board.specs.relay.Steps.{Event, IsOfInput}
use Rattle.sy_replay.specs.internal.Events.{IsIllegal}
use Rattle.sy_replay.specs.internal.Parts.{IsNoTake}
use Rattle.sy_replay.proofs.Made.{if_err, on_ok}
use Rattle.sy_replay.proofs.Refused.{no_take_of}
use Rattle.sy_replay.proofs.steps.hands.take_message.Goals as goal

pub returns-clause-ok : goal.returns-clause-ok
returns-clause-ok c = on_ok c.take.result (λ makes. (c.in-Ok.node, c.in-Ok.ensures.message, c.in-Ok.ensures.tag, makes)) c.take.ensures.ok

pub returns-clause-err : goal.returns-clause-err
returns-clause-err c =
    let board = c.args.board.now in
    let i = c.args.to.input in
    let h = c.args.hand in
    let node = c.in-Ok.node in
    let made = subst (λ p. IsOfInput p i node) (c.deref.ensures ∙ c.plan.ensures) c.in-Ok.ensures.made in
    if_err (λ why. IsIllegal why board (Event.Take i h node)) (λ why. IsNoTake why board i h (arc_value c.args.message) c.args.tag) c.take.result
    (λ why none. subst (λ m. IsNoTake why board i h m c.args.tag) c.in-Ok.ensures.message
    (subst (λ t. IsNoTake why board i h node.message t) c.in-Ok.ensures.tag (no_take_of why board i h node made none))) c.take.ensures.err
