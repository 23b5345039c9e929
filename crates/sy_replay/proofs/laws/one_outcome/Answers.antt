use Rattle.sy_replay.proofs.Outcomes.{one_outcome}
use Rattle.sy_replay.proofs.laws.one_outcome.Goals as goal

pub returns : goal.returns
returns c = one_outcome
