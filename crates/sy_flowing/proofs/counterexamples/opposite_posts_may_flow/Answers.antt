use Rattle.sy_flowing.proofs.examples.LossyFlows.{lossy_flows}
use Rattle.sy_flowing.proofs.counterexamples.opposite_posts_may_flow.Goals as goal

pub returns : goal.returns
returns c = lossy_flows
