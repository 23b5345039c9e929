use Rattle.sy_site.specs.internal.Reading.{words_given}
use Rattle.sy_site.proofs.lemmas.texts.Again.{AgainFrom}
use Rattle.sy_site.proofs.texts.reading.is_duplicate.Given as goal

abbrev pub invariant-loop-earlier : goal.invariant-loop-earlier
invariant-loop-earlier l =
    (AgainFrom l.found (words_given l.line) l.earlier-index → AgainFrom l.found (words_given l.line) 0)
    × (AgainFrom l.found (words_given l.line) 0 → AgainFrom l.found (words_given l.line) l.earlier-index)
