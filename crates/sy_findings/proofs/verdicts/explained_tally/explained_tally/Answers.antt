use Rattle.sy_places.proofs.Promised.{if_ok}
use Rattle.sy_findings.proofs.verdicts.explained_tally.explained_tally.Goals as goal

pub returns-in-Ok : goal.returns-in-Ok
returns-in-Ok c =
    if_ok c.tally_of.result c.tally_of.ensures (λ text told. record {
      instances = c.in-Ok.instances.items;
      are_instances = c.in-Ok.ensures;
      are_told = rw (← c.as_slice.ensures.value) told;
    })
