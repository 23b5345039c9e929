use Rattle.sy_select.specs.Properties.{known}
use Rattle.sy_select.proofs.ExprLaws.{same_verdict}
use Rattle.sy_select.proofs.expr.laws.one_verdict.Goals as goal

pub returns : goal.returns
returns c = λ x class a b p q. same_verdict (known class) x a b p q
