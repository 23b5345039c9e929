use Rattle.std.proofs.Common.{◌∙◌, ap, inl, inr, map}
use Rattle.sy_commands.proofs.Optioned.{either, none_on}
use Rattle.sy_commands.proofs.commands.request_of.Goals as goal

pub returns-in-None-clause-none : goal.returns-in-None-clause-none
returns-in-None-clause-none c = none_on c.graphed.result c.graphed.ensures.none (λ none words given options command are.
    elim (either words options command are) [
      | inl with ↦ c.in-None.ensures.none words given options command with
      | inr drawing ↦ none words (ap (map (λ s. s.now)) c.as_slice.ensures.value ∙ given.all) drawing.class drawing.site drawing.words_are
    ])
