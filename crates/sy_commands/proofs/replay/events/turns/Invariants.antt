use Rattle.std.proofs.Common.{◌≡◌, ◌<◌, ◌≤◌, ◌+◌, ℕ, List, ◌++◌, length}
use Rattle.std.specs.Prelude.{Some}
use Rattle.sy_commands.specs.Replays.{lines_of}
use Rattle.sy_commands.specs.internal.Halts.{Comes, IsOpenLine, place}
use Rattle.sy_commands.proofs.replay.events.turns.Given as goal

abbrev pub invariant-loop : goal.invariant-loop
invariant-loop g l = record {
  of : l.course.replay.site ≡ l.site;
  same : g.W.Sink.faults l.writer ≡ g.W.Sink.faults l.initial.writer;
  room : 0 < length l.pieces.room.items;
  is_open : IsOpenLine l.pieces.held.items;
  comes : (ahead : List ℕ) → g.R.Source.remaining l.initial.reader ≡ Some ahead → (later : List ℕ) × (g.R.Source.remaining l.reader ≡ Some later)
      × Comes l.site
      (place l.initial.course (lines_of (l.initial.pieces.held.items ++ ahead)) (g.W.Sink.contents l.initial.writer) (g.W.Sink.faults l.initial.writer))
      (place l.course (lines_of (l.pieces.held.items ++ later)) (g.W.Sink.contents l.writer) (g.W.Sink.faults l.writer));
  left : (ahead later : List ℕ) → g.R.Source.remaining l.initial.reader ≡ Some ahead → g.R.Source.remaining l.reader ≡ Some later
      → length later + l.counter ≤ length ahead;
}
