use Rattle.sy_site.proofs.machine.Naming.{named_run}
use Rattle.sy_site.proofs.machine.numbers_name_messages.Goals as goal

pub returns : goal.returns
returns c = named_run
