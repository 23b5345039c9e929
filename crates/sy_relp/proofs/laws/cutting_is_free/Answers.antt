use Rattle.sy_relp.proofs.Readings.{cutting_is_free}
use Rattle.sy_relp.proofs.laws.cutting_is_free.Goals as goal

pub returns : goal.returns
returns c = cutting_is_free
