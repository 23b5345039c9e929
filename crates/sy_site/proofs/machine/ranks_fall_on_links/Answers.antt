use Rattle.sy_site.proofs.machine.ranks_fall_on_links.Goals as goal

pub returns : goal.returns
returns c site class rank state falls link tag there copy followed = falls.passed link tag there copy followed
