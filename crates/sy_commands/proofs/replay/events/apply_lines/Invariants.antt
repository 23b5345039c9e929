use Rattle.std.proofs.Common.{◌≡◌, ℕ, List, ◌++◌, length}
use Rattle.sy_commands.specs.Replays.{lines_of}
use Rattle.sy_commands.specs.internal.Halts.{Comes, place}
use Rattle.sy_commands.proofs.replay.events.apply_lines.Given as goal

abbrev pub invariant-loop-line : goal.invariant-loop-line
invariant-loop-line g l = record {
  of : l.course.replay.site ≡ l.site;
  same : g.W.Sink.faults l.writer ≡ g.W.Sink.faults l.initial.writer;
  comes : (ahead : List ℕ)
      → Comes l.site (place l.initial.course (lines_of (l.held ++ ahead)) (g.W.Sink.contents l.initial.writer) (g.W.Sink.faults l.initial.writer))
      (place l.course (lines_of (l.rest ++ ahead)) (g.W.Sink.contents l.writer) (g.W.Sink.faults l.writer));
}

abbrev pub decreases-loop-line : goal.decreases-loop-line
decreases-loop-line g l = length l.rest
