use Rattle.sy_rules.proofs.lemmas.parts.QueueLaws.{queue_of_ruleset}
use Rattle.sy_rules.proofs.laws.lists_of_rulesets.Goals as goal

pub returns : goal.returns
returns c = queue_of_ruleset
