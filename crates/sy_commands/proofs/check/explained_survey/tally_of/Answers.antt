use Rattle.sy_places.proofs.Promised.{if_ok}
use Rattle.sy_commands.proofs.check.explained_survey.tally_of.Goals as goal

pub returns-in-Ok : goal.returns-in-Ok
returns-in-Ok c =
    if_ok c.explained_tally.result c.explained_tally.ensures (λ text reports. record {
      groups = c.in-Ok.groups.items;
      is_survey = c.in-Ok.ensures.survey;
      is_tally = rw (← c.as_slice.ensures.value) reports;
    })
