use Rattle.std.proofs.Common.{ap}
use Rattle.sy_report.specs.Reports.{seen}
use Rattle.sy_commands.proofs.Replayed.{handed_on, read_on}
use Rattle.sy_commands.proofs.replay.replay_on.Goals as goal

pub returns-in-Err-clause-halted : goal.returns-in-Err-clause-halted
returns-in-Err-clause-halted g c = λ text events known read.
    handed_on (g.F.Files.bytes_of c.args.files.now) text events
    (seen g.W.Sink.contents g.W.Sink.is_flushed g.W.Sink.faults c.args.writer.now)
    (seen g.W.Sink.contents g.W.Sink.is_flushed g.W.Sink.faults c.hand_on.new.writer) c.in-Err.halt c.hand_on.result
    (seen g.W.Sink.contents g.W.Sink.is_flushed g.W.Sink.faults c.replay_files.new.writer)
    (c.in-Err.ensures.err text events known read) c.in-Err.ensures.cause (λ is. ap g.W.Sink.faults (c.hand_on.ensures.untouched is))
    c.hand_on.ensures.kept c.hand_on.ensures.status

pub returns-in-Err-clause-unread : goal.returns-in-Err-clause-unread
returns-in-Err-clause-unread g c = λ is.
    c.in-Err.ensures.unread (read_on c.in-Err.halt c.hand_on.result (g.W.Sink.is_flushed c.hand_on.new.writer)
    (g.W.Sink.faults c.replay_files.new.writer) (g.W.Sink.faults c.hand_on.new.writer) c.hand_on.ensures.status is)
