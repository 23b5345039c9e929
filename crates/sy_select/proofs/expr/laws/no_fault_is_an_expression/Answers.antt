use Rattle.sy_select.specs.Trees.{written}
use Rattle.sy_select.proofs.FoundExpr.{some_meaning}
use Rattle.sy_select.proofs.expr.laws.no_fault_is_an_expression.Goals as goal

pub returns : goal.returns
returns c = λ tree right. some_meaning (written tree) right
