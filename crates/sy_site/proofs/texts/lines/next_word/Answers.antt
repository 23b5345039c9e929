use Rattle.std.proofs.Common.{sym, ◌∙◌}
use Rattle.sy_site.proofs.lemmas.texts.Cutting.{blank_first, first_word}
use Rattle.sy_site.proofs.texts.lines.next_word.Goals as goal

pub returns-then-not-is_empty-clause-some : goal.returns-then-not-is_empty-clause-some
returns-then-not-is_empty-clause-some c =
    c.loop-front.invariant
    ∙ first_word c.loop-front.rest.now c.in-Some.front.now c.in-Some.behind.now c.in-Some.ensures.some (sym c.is_empty.ensures
    ∙ c.if-not-is_empty.true)

pub loop-front-preserved : goal.loop-front-preserved
loop-front-preserved c =
    c.loop-front.invariant
    ∙ blank_first c.loop-front.rest.now c.in-Some.front.now c.in-Some.behind.now c.in-Some.ensures.some (sym c.is_empty.ensures
    ∙ c.if-not-is_empty.false)
