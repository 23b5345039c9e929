use Rattle.sy_replay.proofs.line.inside.post_lost.Goals as goal

pub returns-in-None-clause-err : goal.returns-in-None-clause-err
returns-in-None-clause-err c e h = c.in-None.ensures.none h.1.relay h.1.worker h.0 h.1.is_worker
