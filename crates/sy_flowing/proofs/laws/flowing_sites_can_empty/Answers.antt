use Rattle.sy_flowing.proofs.steps.Finish.{can_empty}
use Rattle.sy_flowing.proofs.laws.flowing_sites_can_empty.Goals as goal

pub returns : goal.returns
returns c = can_empty
