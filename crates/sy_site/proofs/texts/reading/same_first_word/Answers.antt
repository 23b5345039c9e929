use Rattle.sy_site.specs.texts.Lines.{words}
use Rattle.sy_site.proofs.lemmas.texts.Again.{begin_alike}
use Rattle.sy_site.proofs.texts.reading.same_first_word.Goals as goal

pub returns-in-Some-behind_word-clause-same : goal.returns-in-Some-behind_word-clause-same
returns-in-Some-behind_word-clause-same c = λ e.
    begin_alike (words c.args.a.now) (words c.args.b.now) c.in-Some.word.now _ _ c.in-Some.ensures.some c.in-Some-behind_word.ensures.some
