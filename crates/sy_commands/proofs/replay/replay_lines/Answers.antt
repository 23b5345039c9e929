use Rattle.std.proofs.Common.{ℕ, ap, subst, sym}
use Rattle.sy_commands.specs.Replays.{EndsReplay}
use Rattle.sy_commands.specs.Reports.{ReportedBy}
use Rattle.sy_commands.specs.Words.{is_any}
use Rattle.sy_report.specs.Reports.{SinkState, seen}
use Rattle.sy_report.specs.Halts.{status_at}
use Rattle.sy_commands.proofs.Courses.{replayed}
use Rattle.sy_commands.proofs.Replayed.{halted_reported}
use Rattle.sy_commands.proofs.Failing.{stop_fails}
use Rattle.sy_commands.proofs.replay.replay_lines.Goals as goal

pub returns-in-Ok-clause-says : goal.returns-in-Ok-clause-says
returns-in-Ok-clause-says g c = rw (← c.out.view_is) (λ text events known read.
    replayed _ text events _ _ _ (c.in-Ok.ensures.done text events known read) c.in-Ok.ensures.flushed)

pub returns-clause-says : goal.returns-clause-says
returns-clause-says g c = rw (← c.out.view_is) (λ text events known read.
    let bytes_of = g.F.Files.bytes_of c.args.files.now in
    let halt = c.in-Err.halt in
    let old = seen g.W.Sink.contents g.W.Sink.is_flushed g.W.Sink.faults c.out.inside.writer in
    let mid = seen g.W.Sink.contents g.W.Sink.is_flushed g.W.Sink.faults c.replay_on-replayed.new.writer in
    let is_reported = ReportedBy (is_any c.args.options) (seen g.E.Sink.contents g.E.Sink.is_flushed g.E.Sink.faults c.out.inside.errors) c.stop_replay.new.out.errors in
    let ends : EndsReplay bytes_of text events (status_at halt) old mid is_reported =
    halted_reported bytes_of text events old mid halt is_reported (c.in-Err.ensures.halted text events known read) c.stop_replay.ensures.reported in
    subst (λ (n : ℕ). EndsReplay bytes_of text events n old c.stop_replay.new.out.output is_reported) (sym c.stop_replay.ensures.status)
    (subst (λ (s : SinkState). EndsReplay bytes_of text events (status_at halt) old s is_reported) (sym c.stop_replay.ensures.same) ends))

pub returns-clause-fails : goal.returns-clause-fails
returns-clause-fails g c = rw (← c.out.view_is) (λ text events known read.
    stop_fails _ c.in-Err.halt c.stop_replay.result (g.W.Sink.faults c.out.inside.writer) (g.W.Sink.faults c.replay_on-replayed.new.writer)
    c.stop_replay.new.out.output.faults c.stop_replay.ensures.status (ap (λ (s : SinkState). s.faults) c.stop_replay.ensures.same)
    (λ is. c.in-Err.ensures.unread is text events known read) c.in-Err.ensures.cause)
