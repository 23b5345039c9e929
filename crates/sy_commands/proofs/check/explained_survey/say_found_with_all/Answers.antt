use Rattle.std.proofs.Common.{subst}
use Rattle.sy_site.specs.Finding.{IsTrueRefusal}
use Rattle.sy_commands.proofs.Said.{found_checked}
use Rattle.sy_commands.proofs.check.explained_survey.say_found_with_all.Goals as goal

pub returns-in-Ok-clause-verdict : goal.returns-in-Ok-clause-verdict
returns-in-Ok-clause-verdict c =
    found_checked c.args.site.now c.in-Finding.field-0 c.in-Ok.answer.is_accepted
    (subst (IsTrueRefusal c.args.site.now) c.in-Finding.is c.requires.found) c.in-Ok.ensures.ok.refused
