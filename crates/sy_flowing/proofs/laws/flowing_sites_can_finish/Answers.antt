use Rattle.sy_flowing.proofs.steps.Finish.{can_finish}
use Rattle.sy_flowing.proofs.laws.flowing_sites_can_finish.Goals as goal

pub returns : goal.returns
returns c = λ site law sound flow bound some. can_finish site law flow bound some sound
