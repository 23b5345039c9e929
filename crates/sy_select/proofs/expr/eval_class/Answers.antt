use Rattle.sy_select.specs.Properties.{known}
use Rattle.sy_select.proofs.Verdicts.{verdict_is}
use Rattle.sy_select.proofs.expr.eval_class.Goals as goal

pub returns : goal.returns
returns c = rw (c.verdict_of.ensures, c.expr.view_is) (verdict_is (known c.args.class) c.args.expr.now)
