use Rattle.sy_runtime.proofs.CountLaws.{counted_once}
use Rattle.sy_runtime.proofs.laws.one_count.Goals as goal

pub returns : goal.returns
returns c = counted_once
