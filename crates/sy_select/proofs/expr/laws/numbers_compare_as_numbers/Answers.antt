use Rattle.sy_select.proofs.ExprLaws.{as_numbers}
use Rattle.sy_select.proofs.expr.laws.numbers_compare_as_numbers.Goals as goal

pub returns : goal.returns
returns c = as_numbers
