use Rattle.sy_site.proofs.lemmas.texts.Shaped.{no_selector}
use Rattle.sy_site.proofs.texts.shapes.protect_line.Goals as goal

pub returns-in-None-clause-none : goal.returns-in-None-clause-none
returns-in-None-clause-none c = no_selector _ c.in_ok-word.word.now _ c.in_ok-word.ensures.some c.in-None.ensures.none
