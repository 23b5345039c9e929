use Rattle.sy_site.proofs.machine.Naming.{shaped_run}
use Rattle.sy_site.proofs.machine.relays_keep_their_places.Goals as goal

pub returns : goal.returns
returns c = shaped_run
