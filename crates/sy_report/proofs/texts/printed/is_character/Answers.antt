use Rattle.std.proofs.Common.{◌∙◌}
use Rattle.sy_report.proofs.PrintedNames.{character-no_utf8, character-utf8}
use Rattle.sy_report.proofs.texts.printed.is_character.Goals as goal

pub returns-in-Ok : goal.returns-in-Ok
returns-in-Ok c = c.is_one_shown.ensures ∙ character-utf8 _ _ c.in-Ok.ensures.cases.0 c.in-Ok.ensures.cases.1

pub returns-in-Err : goal.returns-in-Err
returns-in-Err c = character-no_utf8 _ c.in-Err.ensures.cases.0
