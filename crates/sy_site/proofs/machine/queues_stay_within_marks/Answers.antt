use Rattle.sy_site.proofs.machine.Marks.{marks_run}
use Rattle.sy_site.proofs.machine.queues_stay_within_marks.Goals as goal

pub returns : goal.returns
returns c = marks_run
