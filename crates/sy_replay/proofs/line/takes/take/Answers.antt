use Rattle.sy_replay.proofs.LineEvents.{no_take}
use Rattle.sy_replay.proofs.line.takes.take.Goals as goal

pub returns-in-Err-clause-err : goal.returns-in-Err-clause-err
returns-in-Err-clause-err c =
    no_take c.args.site.now _ c.in-Some.at.to c.in-Some.at.hand _ c.in-Err.fault c.in-Some.ensures.some c.in-Err.ensures.err

pub returns-in-None-clause-err : goal.returns-in-None-clause-err
returns-in-None-clause-err c e h = c.in-None.ensures.none h.to h.hand h.behind h.is_hand
