use Rattle.std.proofs.Common.{sym, ◌∙◌}
use Rattle.sy_site.proofs.lemmas.texts.Cutting.{last_word, no_word}
use Rattle.sy_site.proofs.texts.lines.only_word.Goals as goal

pub returns-then-is_empty-clause-none : goal.returns-then-is_empty-clause-none
returns-then-is_empty-clause-none c = no_word c.args.line.now (sym c.is_empty.ensures ∙ c.if-is_empty.true)

pub returns-else-is_empty-clause-some : goal.returns-else-is_empty-clause-some
returns-else-is_empty-clause-some c = last_word c.args.line.now c.requires.one (sym c.is_empty.ensures ∙ c.if-is_empty.false)
