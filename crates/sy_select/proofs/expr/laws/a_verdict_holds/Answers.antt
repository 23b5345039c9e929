use Rattle.std.proofs.Common.{true, false}
use Rattle.sy_select.proofs.ExprLaws.{holds_for_all}
use Rattle.sy_select.proofs.expr.laws.a_verdict_holds.Goals as goal

pub returns : goal.returns
returns c = record { yes = λ x m h. holds_for_all m x true h; no = λ x m h. holds_for_all m x false h }
