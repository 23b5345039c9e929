use Rattle.std.proofs.Common.{sym}
use Rattle.sy_replay.proofs.LineWords.{same_line, words_of}
use Rattle.sy_replay.proofs.line.takes.message_left.Goals as goal

pub returns-in-Err-clause-none : goal.returns-in-Err-clause-none
returns-in-Err-clause-none c e m is left =
    let words = rw c.in-Some.is at left in
    c.in-Err.ensures.none e m is (same_line m.raw c.in-Some.raw.now (sym words))

pub returns-in-Err-clause-memory : goal.returns-in-Err-clause-memory
returns-in-Err-clause-memory c e = rw c.in-Some.is (words_of c.in-Some.raw.now)
