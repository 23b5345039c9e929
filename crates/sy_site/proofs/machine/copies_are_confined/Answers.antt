use Rattle.sy_site.proofs.machine.Guarded.{confined_run}
use Rattle.sy_site.proofs.machine.copies_are_confined.Goals as goal

pub returns : goal.returns
returns c = confined_run
