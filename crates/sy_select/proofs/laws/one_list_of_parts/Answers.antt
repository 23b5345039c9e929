use Rattle.sy_select.proofs.OneReading.{one_list}
use Rattle.sy_select.proofs.laws.one_list_of_parts.Goals as goal

pub returns : goal.returns
returns c = one_list
