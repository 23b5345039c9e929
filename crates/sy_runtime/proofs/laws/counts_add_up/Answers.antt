use Rattle.sy_runtime.proofs.CountLaws.{counts_add}
use Rattle.sy_runtime.proofs.laws.counts_add_up.Goals as goal

pub returns : goal.returns
returns c = counts_add
