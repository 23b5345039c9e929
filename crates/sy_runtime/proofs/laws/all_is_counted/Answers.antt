use Rattle.sy_runtime.proofs.CountLaws.{counted_to_the_end}
use Rattle.sy_runtime.proofs.laws.all_is_counted.Goals as goal

pub returns : goal.returns
returns c = counted_to_the_end
