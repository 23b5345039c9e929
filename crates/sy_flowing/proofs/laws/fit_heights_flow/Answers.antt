use Rattle.sy_flowing.proofs.numbers.Heights.{fit_flows}
use Rattle.sy_flowing.specs.Heights.{height_by, left_by}
use Rattle.sy_flowing.proofs.laws.fit_heights_flow.Goals as goal

pub returns : goal.returns
returns c = λ site law heights lefts fit. fit_flows site law (height_by heights) (left_by lefts) fit
