use Rattle.sy_board.proofs.relay.Guards.{within_guard}
use Rattle.sy_board.proofs.relay.board.Board.accounts.Goals as goal

pub returns-clause-within : goal.returns-clause-within
returns-clause-within c = rw (← c.self.view_is) (λ input class is only.
    let orderly = c.self.invariant.orderly in
    within_guard _ _ orderly.may _ orderly.guarding input class is only)
