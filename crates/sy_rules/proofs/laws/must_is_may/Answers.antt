use Rattle.sy_rules.proofs.lemmas.lists.WorkLaws.{must_may}
use Rattle.sy_rules.proofs.laws.must_is_may.Goals as goal

pub returns : goal.returns
returns c = must_may
