use Rattle.sy_select.specs.Trees.{written}
use Rattle.sy_select.proofs.ExprLaws.{no_fault}
use Rattle.sy_select.proofs.expr.laws.an_expression_has_no_fault.Goals as goal

pub returns : goal.returns
returns c = λ tree x h. no_fault (written tree) x h
