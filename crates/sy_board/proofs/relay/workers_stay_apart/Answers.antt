use Rattle.sy_board.proofs.relay.Lengths.{alone_step}
use Rattle.sy_board.proofs.relay.workers_stay_apart.Goals as goal

pub returns : goal.returns
returns c = alone_step
