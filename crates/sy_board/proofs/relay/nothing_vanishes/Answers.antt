use Rattle.sy_board.proofs.relay.Balance.{balance_step}
use Rattle.sy_board.proofs.relay.nothing_vanishes.Goals as goal

pub returns : goal.returns
returns c = balance_step
