use Rattle.sy_flowing.proofs.examples.ExampleFlows.{example_flows}
use Rattle.sy_flowing.proofs.laws.the_example_flows.Goals as goal

pub returns : goal.returns
returns c = example_flows
