use Rattle.sy_site.proofs.machine.ranks_fall_at_places.Goals as goal

pub returns : goal.returns
returns c site class rank state falls relay cell entry there copy followed =
    let held = falls.held relay cell entry there copy followed in (held.0, held.1.reached, held.1.follows)
