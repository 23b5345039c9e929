use Rattle.std.proofs.Common.{◌-◌, ◌≡◌, ◌≤◌, drop, length}
use Rattle.std.specs.Io.KnownBytes.{Keeps}
use Rattle.sy_wire.specs.Streams.{with_held}
use Rattle.sy_escapes.proofs.batch.write_from.Given as goal

abbrev pub invariant-loop-at : goal.invariant-loop-at
invariant-loop-at g l = record {
  more : l.from ≤ l.at;
  bound : l.at ≤ length l.bytes;
  wrote : Keeps (with_held (g.W.Sink.contents l.fn.writer) (drop l.from l.bytes)) (with_held (g.W.Sink.contents l.writer) (drop l.at l.bytes));
  faults : g.W.Sink.faults l.writer ≡ g.W.Sink.faults l.fn.writer;
}

abbrev pub decreases-loop-at : goal.decreases-loop-at
decreases-loop-at g l = length l.bytes - l.at
