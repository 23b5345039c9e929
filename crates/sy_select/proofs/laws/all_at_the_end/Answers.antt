use Rattle.sy_select.proofs.OneReading.{all_last}
use Rattle.sy_select.proofs.laws.all_at_the_end.Goals as goal

pub returns : goal.returns
returns c = all_last
