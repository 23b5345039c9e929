use Rattle.sy_board.proofs.relay.Lengths.{length_step}
use Rattle.sy_board.proofs.relay.lengths_change.Goals as goal

pub returns : goal.returns
returns c = length_step
