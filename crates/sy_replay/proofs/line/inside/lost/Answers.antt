use Rattle.sy_replay.specs.Lines.{cause_word}
use Rattle.sy_replay.proofs.line.inside.lost.Goals as goal

pub returns-in-None-clause-none : goal.returns-in-None-clause-none
returns-in-None-clause-none c relay worker memory h = c.in-None.ensures.none relay worker (cause_word memory) h
