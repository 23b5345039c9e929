use Rattle.sy_rules.proofs.lemmas.lists.WorkLaws.{stopped_there}
use Rattle.sy_rules.proofs.laws.a_stop_ends_all.Goals as goal

pub returns : goal.returns
returns c = stopped_there
