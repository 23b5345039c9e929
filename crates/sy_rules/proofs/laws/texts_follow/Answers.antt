use Rattle.sy_rules.proofs.lemmas.lists.WorkLaws.{follows}
use Rattle.sy_rules.proofs.laws.texts_follow.Goals as goal

pub returns : goal.returns
returns c = follows
