use Rattle.sy_rules.proofs.lemmas.lists.FlowRows.{empty_head}
use Rattle.sy_rules.proofs.lists.decided.no_head.Goals as goal

pub returns : goal.returns
returns c = empty_head
