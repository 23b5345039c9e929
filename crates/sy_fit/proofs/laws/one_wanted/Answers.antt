use Rattle.sy_fit.proofs.Uniqueness.{one_wanted}
use Rattle.sy_fit.proofs.laws.one_wanted.Goals as goal

pub returns : goal.returns
returns c = one_wanted
