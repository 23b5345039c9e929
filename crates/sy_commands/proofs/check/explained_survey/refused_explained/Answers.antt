use Rattle.std.proofs.Common.{refl}
use Rattle.sy_commands.proofs.check.explained_survey.refused_explained.Goals as goal

pub returns-in-Ok : goal.returns-in-Ok
returns-in-Ok c = record {
  ok = record {
    groups = c.in-Ok.ensures.groups;
    is_survey = c.in-Ok.ensures.is_survey;
    unsound = c.requires.unsound;
    is_tally = c.in-Ok.ensures.is_tally;
    refused = refl;
  };
}
