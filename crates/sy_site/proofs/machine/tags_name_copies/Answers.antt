use Rattle.sy_site.proofs.machine.Naming.{tags_run}
use Rattle.sy_site.proofs.machine.tags_name_copies.Goals as goal

pub returns : goal.returns
returns c = tags_run
