use Rattle.sy_flowing.proofs.examples.RoundSteps.{goes_round}
use Rattle.sy_flowing.proofs.counterexamples.a_message_goes_round.Goals as goal

pub returns : goal.returns
returns c = goes_round
