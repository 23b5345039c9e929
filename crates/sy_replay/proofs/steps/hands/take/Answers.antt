use Rattle.std.proofs.Common.{sym, subst}
use Rattle.sy_board.specs.relay.Boards.{TakeIs}
use Rattle.sy_board.specs.relay.Steps.{Cause, Event}
use Rattle.sy_replay.specs.internal.Events.{IsIllegal}
use Rattle.sy_replay.specs.declared.event.Cause.TheVariants as cause
use Rattle.sy_replay.proofs.Made.{losing, taken_lost}
use Rattle.sy_replay.proofs.Refused.{take_refused}
use Rattle.sy_replay.proofs.steps.hands.take.Goals as goal

pub returns-in-Ok-Discarded-clause-ok : goal.returns-in-Ok-Discarded-clause-ok
returns-in-Ok-Discarded-clause-ok c =
    let i = c.args.input in
    let h = c.args.hand in
    let is = subst (λ x. TakeIs x c.args.board.now i h c.args.node c.take.new.self) c.in-Ok-Discarded.field-0-is c.in-Ok-Discarded.ensures.ok in
    losing c.args.relay c.args.board.now c.take.new.self (Event.Take i h c.args.node) Cause.Take c.args.node c.args.losses.now.items c.push_reserved.new.self.items
    (record { copy = c.tag-copy.result; relay = c.args.relay; list = c.list-list.result; cause = cause.Take })
    (taken_lost c.args.board.now c.take.new.self i h c.args.node c.in-Ok-Discarded.field-0-0 is)
    (rw c.reserve.ensures.items at c.push_reserved.ensures.items)
    (λ i. record { copy = c.tag-copy.ensures i; relay = c.args.relay; list = c.list-list.ensures i; cause = Cause.Take })

pub returns-clause-err : goal.returns-clause-err
returns-clause-err c =
    let i = c.args.input in
    let h = c.args.hand in
    subst (λ why. IsIllegal why c.args.board.now (Event.Take i h c.args.node)) (sym c.illegal_of.ensures)
    (take_refused c.in-Err.fault c.args.board.now i h c.args.node c.in-Err.ensures.err)
