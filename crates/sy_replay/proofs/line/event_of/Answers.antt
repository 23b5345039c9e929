use Rattle.std.proofs.Common.{ℕ, List, ◌∷◌, ap, ◌∙◌}
use Rattle.std.specs.Option.{option_copied}
use Rattle.sy_replay.specs.internal.Reading.{words_left}
use Rattle.sy_replay.proofs.LineEvents.{no_event}
use Rattle.sy_replay.proofs.line.event_of.Goals as goal

pub returns-in-Err-clause-err : goal.returns-in-Err-clause-err
returns-in-Err-clause-err c =
    no_event c.args.site.now c.args.line.now c.in-Some.verb (words_left (option_copied c.first_word.result.1)) c.in-Err.fault
    (c.first_word.ensures ∙ ap (λ (w : List ℕ). w ∷ words_left (option_copied c.first_word.result.1)) c.in-Some.ensures.some)
    c.in-Err.ensures.err
