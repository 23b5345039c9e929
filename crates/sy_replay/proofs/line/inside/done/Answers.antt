use Rattle.sy_replay.proofs.line.inside.done.Goals as goal

pub returns-in-None-clause-err : goal.returns-in-None-clause-err
returns-in-None-clause-err c e h = c.in-None.ensures.none h.relay h.worker h.is_worker
