use Rattle.std.proofs.Common.{[], ◌∷◌}
use Rattle.sy_replay.proofs.line.inside.worker_and_word.Goals as goal

pub returns-in-None-clause-none : goal.returns-in-None-clause-none
returns-in-None-clause-none c relay worker word h = c.in-None.ensures.none relay worker (word ∷ []) h
