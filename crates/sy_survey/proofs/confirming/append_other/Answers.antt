use Rattle.sy_survey.proofs.Spares.{none_added, one_added}
use Rattle.sy_survey.proofs.confirming.append_other.Goals as goal

pub returns-then-other-action : goal.returns-then-other-action
returns-then-other-action c = none_added _

pub returns : goal.returns
returns c = rw c.in_ok-append_spare.ensures (one_added _ _)
