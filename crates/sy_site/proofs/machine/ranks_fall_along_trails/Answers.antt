use Rattle.sy_site.proofs.machine.Guarded.{falls_run}
use Rattle.sy_site.proofs.machine.ranks_fall_along_trails.Goals as goal

pub returns : goal.returns
returns c = λ site class sound rank ranks. falls_run site class (record { clean = sound.clean; rank = rank; ranks = ranks; leads = sound.leads })
