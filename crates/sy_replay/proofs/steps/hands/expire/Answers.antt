use Rattle.std.proofs.Common.{sym, subst}
use Rattle.sy_board.specs.relay.Steps.{Cause, Event}
use Rattle.sy_replay.specs.internal.Events.{IsIllegal}
use Rattle.sy_replay.specs.declared.event.Cause.TheVariants as cause
use Rattle.sy_replay.proofs.Made.{expired, losing}
use Rattle.sy_replay.proofs.Refused.{expire_refused}
use Rattle.sy_replay.proofs.steps.hands.expire.Goals as goal

pub returns-in-Ok-expire-clause-ok : goal.returns-in-Ok-expire-clause-ok
returns-in-Ok-expire-clause-ok c =
    let i = c.args.input in
    let h = c.args.hand in
    losing c.args.relay c.args.board.now c.expire.new.self (Event.Expire i h) Cause.Expire c.in-Ok-expire.node c.args.losses.now.items c.push_reserved.new.self.items
    (record { copy = c.tag.result; relay = c.args.relay; list = c.list.result; cause = cause.Expire })
    (expired c.args.board.now c.expire.new.self i h c.in-Ok-expire.node c.in-Ok-expire.ensures.ok)
    (rw c.reserve.ensures.items at c.push_reserved.ensures.items)
    (λ i. record { copy = c.tag.ensures i; relay = c.args.relay; list = c.list.ensures i; cause = Cause.Expire })

pub returns-in-Err-clause-err : goal.returns-in-Err-clause-err
returns-in-Err-clause-err c =
    let i = c.args.input in
    let h = c.args.hand in
    subst (λ why. IsIllegal why c.args.board.now (Event.Expire i h)) (sym c.illegal_of.ensures)
    (expire_refused c.in-Err.fault c.args.board.now i h c.in-Err.ensures.err)
