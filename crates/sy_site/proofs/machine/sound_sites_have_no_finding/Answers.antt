use Rattle.sy_site.specs.machine.Reach.{entry}
use Rattle.sy_site.proofs.machine.NoFinding.{none_found, way_reaches}
use Rattle.sy_site.proofs.machine.sound_sites_have_no_finding.Goals as goal

pub returns : goal.returns
returns c site sound class way input kind found =
    let all = sound class found.protected in
    none_found site class all
    (λ w i k is holds. all.clean i (way_reaches site class is.entry w i (entry is.is_entry) is.follows) k holds) way input kind found.found
