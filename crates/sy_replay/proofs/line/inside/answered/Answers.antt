use Rattle.sy_replay.specs.Lines.{yes_or_no}
use Rattle.sy_replay.proofs.line.inside.answered.Goals as goal

pub returns-in-None-clause-none : goal.returns-in-None-clause-none
returns-in-None-clause-none c relay worker took h = c.in-None.ensures.none relay worker (yes_or_no took) h
