use Rattle.sy_rules.proofs.lemmas.parts.OnePlan.{one_plan}
use Rattle.sy_rules.proofs.laws.one_plan.Goals as goal

pub returns : goal.returns
returns c = one_plan
