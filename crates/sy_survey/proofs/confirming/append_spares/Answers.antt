use Rattle.sy_survey.proofs.Spares.{more_added, none_added}
use Rattle.sy_survey.proofs.confirming.append_spares.Goals as goal

pub loop-other-init : goal.loop-other-init
loop-other-init c = none_added _

pub loop-other-preserved : goal.loop-other-preserved
loop-other-preserved c = more_added c.loop-other.invariant c.in_ok-append_other.ensures
