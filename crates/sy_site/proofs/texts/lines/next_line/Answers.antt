use Rattle.std.proofs.Common.{sym, ◌∙◌}
use Rattle.sy_site.proofs.lemmas.texts.Cutting.{first_line, last_line}
use Rattle.sy_site.proofs.texts.lines.next_line.Goals as goal

pub returns-in-Some-clause-some : goal.returns-in-Some-clause-some
returns-in-Some-clause-some c = rw c.without_return.ensures (first_line c.args.text.now c.in-Some.at (rw c.in-Some.is at c.memchr.ensures))

pub returns-in-None-2-clause-some : goal.returns-in-None-2-clause-some
returns-in-None-2-clause-some c = last_line c.args.text.now (rw c.in-None.is at c.memchr.ensures) (sym c.is_empty.ensures ∙ c.if-is_empty.false)
