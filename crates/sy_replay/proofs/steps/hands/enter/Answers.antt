use Rattle.std.proofs.Common.{sym, subst}
use Rattle.sy_board.specs.relay.Boards.{EnterIs}
use Rattle.sy_board.specs.relay.Steps.{Event}
use Rattle.sy_replay.specs.internal.Events.{IsIllegal}
use Rattle.sy_replay.proofs.Made.{entered, quiet}
use Rattle.sy_replay.proofs.Refused.{enter_refused}
use Rattle.sy_replay.proofs.steps.hands.enter.Goals as goal

pub returns-in-Ok-Entered-clause-ok : goal.returns-in-Ok-Entered-clause-ok
returns-in-Ok-Entered-clause-ok c = λ losses.
    let i = c.args.input in
    let h = c.args.hand in
    quiet c.args.relay c.args.board.now c.enter.new.self (Event.Enter i h) losses
    (entered c.args.board.now c.enter.new.self i h
    (subst (λ x. EnterIs x c.args.board.now i h c.enter.new.self) c.in-Ok-Entered.field-0-is c.in-Ok-Entered.ensures.ok))

pub returns-in-Err-clause-err : goal.returns-in-Err-clause-err
returns-in-Err-clause-err c =
    let i = c.args.input in
    let h = c.args.hand in
    subst (λ why. IsIllegal why c.args.board.now (Event.Enter i h)) (sym c.illegal_of.ensures)
    (enter_refused c.in-Err.fault c.args.board.now i h c.in-Err.ensures.err)
