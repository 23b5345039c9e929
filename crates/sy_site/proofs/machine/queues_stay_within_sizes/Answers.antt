use Rattle.sy_site.proofs.machine.Sizes.{sizes_run}
use Rattle.sy_site.proofs.machine.queues_stay_within_sizes.Goals as goal

pub returns : goal.returns
returns c = sizes_run
