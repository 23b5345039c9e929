use Rattle.sy_board.proofs.relay.Outcomes.{jobs_same}
use Rattle.sy_board.proofs.relay.one_job.Goals as goal

pub returns : goal.returns
returns c = jobs_same
