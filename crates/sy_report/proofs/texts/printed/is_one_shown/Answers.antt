use Rattle.std.proofs.Common.{◌∙◌, sym}
use Rattle.sy_report.proofs.PrintedNames.{one_alone, one_of_more}
use Rattle.sy_report.proofs.texts.printed.is_one_shown.Goals as goal

pub returns-then-is_some : goal.returns-then-is_some
returns-then-is_some c =
    one_of_more _ _ _ _ c.utf8.text (sym c.chars-characters.ensures.rest ∙ c.in-Some.ensures.steps.0) c.next-2.ensures.steps.2
    (sym c.is_some.ensures ∙ c.if-is_some.true)

pub returns : goal.returns
returns c =
    c.is_shown.ensures
    ∙ one_alone _ _ _ _ c.utf8.text (sym c.chars-characters.ensures.rest ∙ c.in-Some.ensures.steps.0) c.next-2.ensures.steps.2
    (sym c.is_some.ensures ∙ c.if-is_some.false)
