use Rattle.sy_rules.proofs.lemmas.lists.CallLaws.{replaced}
use Rattle.sy_rules.proofs.laws.calls_are_replaced.Goals as goal

pub returns : goal.returns
returns c = replaced
