use Rattle.std.proofs.Common.{◌++◌, ◌∙◌, ap, arith, map, sym, subst}
use Rattle.sy_board.specs.relay.Steps.{Cause, Event, Out}
use Rattle.sy_replay.specs.Events.{losses_of}
use Rattle.sy_replay.specs.internal.Events.{IsIllegal}
use Rattle.sy_replay.specs.internal.Parts.{lost_by}
use Rattle.sy_replay.proofs.Made.{few_lost, grab_some, grabbed}
use Rattle.sy_replay.proofs.Refused.{grab_refused}
use Rattle.sy_replay.proofs.steps.hands.grab.Goals as goal

pub note_grabbed-requires : goal.note_grabbed-requires
note_grabbed-requires c =
    let few = few_lost c.args.board.now c.grab.new.self c.args.worker c.in-Ok-grab.count c.in-Ok-grab.lost c.in-Ok-grab.ensures.ok c.batch_of.result c.batch_of.ensures in
    let room = c.in-Ok.ensures.ok in
    omega (arith, few, room)

pub returns-else-count-eq0-clause-ok : goal.returns-else-count-eq0-clause-ok
returns-else-count-eq0-clause-ok c =
    let made = grab_some c.args.board.now c.grab.new.self c.args.worker c.in-Ok-grab.count c.in-Ok-grab.lost c.in-Ok-grab.ensures.ok c.if-count-eq0.false in
    grabbed c.args.relay c.args.board.now c.grab.new.self c.args.worker c.in-Ok-grab.lost (losses_of c.args.losses.now.items) (losses_of c.note_grabbed.new.losses.items)
    made.0 made.1 (c.note_grabbed.ensures
    ∙ ap (λ xs. losses_of xs ++ lost_by c.args.relay (map (Out.Lost Cause.Grab) c.in-Ok-grab.lost)) c.reserve.ensures.items)

pub returns-in-Err-clause-err : goal.returns-in-Err-clause-err
returns-in-Err-clause-err c =
    subst (λ why. IsIllegal why c.args.board.now (Event.Grab c.args.worker)) (sym c.illegal_of.ensures)
    (grab_refused c.in-Err.fault c.args.board.now c.args.worker c.in-Err.ensures.err)
