use Rattle.sy_marks.proofs.Holds.{one_hold}
use Rattle.sy_marks.proofs.laws.one_hold.Goals as goal

pub returns : goal.returns
returns c = one_hold
