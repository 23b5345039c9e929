use Rattle.sy_rules.proofs.lemmas.lists.WorkLaws.{rising}
use Rattle.sy_rules.proofs.laws.executed_in_order.Goals as goal

pub returns : goal.returns
returns c s v = rising s 0 v
