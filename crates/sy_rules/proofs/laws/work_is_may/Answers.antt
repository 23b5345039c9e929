use Rattle.sy_rules.proofs.lemmas.lists.WorkLaws.{work_may}
use Rattle.sy_rules.proofs.laws.work_is_may.Goals as goal

pub returns : goal.returns
returns c = work_may
