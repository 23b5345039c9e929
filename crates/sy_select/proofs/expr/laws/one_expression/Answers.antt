use Rattle.sy_select.specs.Trees.{written}
use Rattle.sy_select.proofs.OneExpr.{one_meaning}
use Rattle.sy_select.proofs.expr.laws.one_expression.Goals as goal

pub returns : goal.returns
returns c = λ tree x y p q. one_meaning (written tree) x y p q
