use Rattle.sy_select.proofs.OneExpr.{one_set}
use Rattle.sy_select.proofs.laws.one_set.Goals as goal

pub returns : goal.returns
returns c = one_set
