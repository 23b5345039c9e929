use Rattle.sy_rules.proofs.lemmas.lists.WorkLaws.{must_work}
use Rattle.sy_rules.proofs.laws.must_is_work.Goals as goal

-- src/laws.rt:10:1
pub returns : goal.returns
returns c = must_work
