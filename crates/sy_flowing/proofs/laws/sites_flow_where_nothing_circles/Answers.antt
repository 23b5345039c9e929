use Rattle.sy_flowing.proofs.numbers.NoCircle.{flows_without_circles}
use Rattle.sy_flowing.proofs.laws.sites_flow_where_nothing_circles.Goals as goal

pub returns : goal.returns
returns c = flows_without_circles
