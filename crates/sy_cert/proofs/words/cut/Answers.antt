use Rattle.sy_cert.proofs.Cutting.{cut_at, cut_nowhere}
use Rattle.sy_cert.proofs.words.cut.Goals as goal

pub returns-in-Some-clause-some : goal.returns-in-Some-clause-some
returns-in-Some-clause-some c = cut_at c.args.mark c.in-Some.at c.args.bytes.now (rw c.in-Some.is at c.memchr.ensures)

pub returns-in-None-clause-none : goal.returns-in-None-clause-none
returns-in-None-clause-none c = cut_nowhere c.args.mark c.args.bytes.now (rw c.in-None.is at c.memchr.ensures)
