use Rattle.sy_site.proofs.machine.SafeRun.{safe_run}
use Rattle.sy_site.proofs.machine.sound_sites_are_safe.Goals as goal

pub returns : goal.returns
returns c = safe_run
