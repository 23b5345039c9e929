use Rattle.sy_select.proofs.OneReading.{none_last}
use Rattle.sy_select.proofs.laws.none_at_the_end.Goals as goal

pub returns : goal.returns
returns c = none_last
