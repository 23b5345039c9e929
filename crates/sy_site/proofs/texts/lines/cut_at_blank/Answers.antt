use Rattle.sy_site.specs.texts.Lines.{is_blank}
use Rattle.sy_site.proofs.lemmas.texts.Cutting.{split_first, split_none}
use Rattle.sy_site.proofs.texts.lines.cut_at_blank.Goals as goal

pub returns-in-Some-clause-some : goal.returns-in-Some-clause-some
returns-in-Some-clause-some c = split_first is_blank c.in-Some.at c.args.line.now (rw c.in-Some.is at c.memchr2.ensures)

pub returns-in-None-clause-none : goal.returns-in-None-clause-none
returns-in-None-clause-none c = split_none is_blank c.args.line.now (rw c.in-None.is at c.memchr2.ensures)
