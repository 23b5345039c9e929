use Rattle.std.proofs.Common.{[]}
use Rattle.sy_replay.proofs.line.inside.only_worker.Goals as goal

pub returns-in-None-clause-none : goal.returns-in-None-clause-none
returns-in-None-clause-none c relay worker h = c.in-None.ensures.none relay worker [] h
