use Rattle.sy_select.specs.Properties.{known}
use Rattle.sy_select.proofs.ExprLaws.{opposite_of_not}
use Rattle.sy_select.proofs.expr.laws.the_opposite_of_not.Goals as goal

pub returns : goal.returns
returns c = λ x class v h. opposite_of_not (known class) x v h
