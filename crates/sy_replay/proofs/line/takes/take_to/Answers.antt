use Rattle.std.proofs.Common.{ℕ, List, ◌∷◌, ap, ◌∙◌}
use Rattle.std.specs.Option.{option_copied}
use Rattle.sy_replay.specs.internal.Reading.{words_left}
use Rattle.sy_replay.proofs.LineEvents.{only_from, only_new}
use Rattle.sy_replay.proofs.line.takes.take_to.Goals as goal

pub returns-then-is_word-clause-err : goal.returns-then-is_word-clause-err
returns-then-is_word-clause-err c =
    only_new c.args.site.now c.args.at.to c.args.at.hand _ (words_left (option_copied c.in-Some.rest)) c.take_new.result
    (c.in-Some.ensures.some ∙ ap (λ (w : List ℕ). w ∷ words_left (option_copied c.in-Some.rest)) (c.is_word.ensures.yes c.if-is_word.true))
    c.take_new.ensures.err

pub returns-then-is_word-2-clause-err : goal.returns-then-is_word-2-clause-err
returns-then-is_word-2-clause-err c =
    only_from c.args.site.now c.args.at.to c.args.at.hand _ (words_left (option_copied c.in-Some.rest)) c.take_from.result
    (c.in-Some.ensures.some ∙ ap (λ (w : List ℕ). w ∷ words_left (option_copied c.in-Some.rest)) (c.is_word-in-Some.ensures.yes c.if-is_word-2.true))
    c.take_from.ensures.err
