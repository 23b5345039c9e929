use Rattle.sy_wire.proofs.WordLaws.{split_first, split_none}
use Rattle.sy_wire.proofs.words.first_word.Goals as goal

pub returns-in-Some : goal.returns-in-Some
returns-in-Some c = split_first c.args.line.now c.in-Some.at (rw c.in-Some.is at c.memchr.ensures)

pub returns-in-None : goal.returns-in-None
returns-in-None c = split_none c.args.line.now (rw c.in-None.is at c.memchr.ensures)
