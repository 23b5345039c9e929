use Rattle.std.proofs.Common.{◌∙◌}
use Rattle.sy_select.proofs.Contains.{contains_is}
use Rattle.sy_select.proofs.condition.contains.Goals as goal

pub returns : goal.returns
returns c = c.is_some.ensures ∙ contains_is c.args.text.now c.args.other.now c.find.result c.find.ensures
