use Rattle.sy_site.proofs.machine.confined_links.Goals as goal

pub returns : goal.returns
returns c site class state confined link forward tag there copy followed plain =
    let within = confined.on_links link tag there copy followed plain forward in (within.to, within.leads, within.reached)
