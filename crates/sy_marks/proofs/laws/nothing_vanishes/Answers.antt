use Rattle.sy_marks.proofs.Fronts.{parted}
use Rattle.sy_marks.proofs.laws.nothing_vanishes.Goals as goal

pub returns : goal.returns
returns c = λ marks n entries kind. parted marks kind n entries
