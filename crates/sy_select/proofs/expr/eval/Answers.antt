use Rattle.std.proofs.Common.{rules}
use Rattle.sy_select.specs.Properties.{says}
use Rattle.sy_select.proofs.Verdicts.{truth_is}
use Rattle.sy_select.proofs.expr.eval.Goals as goal

pub returns : goal.returns
returns c = let e = truth_is (says c.args.message.now) c.args.expr.now in search (rules, e)
