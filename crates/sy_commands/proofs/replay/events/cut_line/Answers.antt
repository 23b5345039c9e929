use Rattle.sy_commands.proofs.Cutting.{is_open, line_cut}
use Rattle.sy_commands.proofs.replay.events.cut_line.Goals as goal

pub returns-in-Some-clause-some : goal.returns-in-Some-clause-some
returns-in-Some-clause-some c = line_cut c.in-Some.at c.args.text.now (rw c.in-Some.is at c.memchr.ensures)

pub returns-in-None-clause-none : goal.returns-in-None-clause-none
returns-in-None-clause-none c = is_open c.args.text.now (rw c.in-None.is at c.memchr.ensures)
