use Rattle.sy_board.proofs.relay.Outcomes.{one_step}
use Rattle.sy_board.proofs.relay.one_outcome.Goals as goal

pub returns : goal.returns
returns c = one_step
