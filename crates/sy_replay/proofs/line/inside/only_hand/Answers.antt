use Rattle.std.proofs.Common.{[]}
use Rattle.sy_replay.proofs.line.inside.only_hand.Goals as goal

pub returns-in-None-clause-none : goal.returns-in-None-clause-none
returns-in-None-clause-none c to hand h = c.in-None.ensures.none to hand [] h
