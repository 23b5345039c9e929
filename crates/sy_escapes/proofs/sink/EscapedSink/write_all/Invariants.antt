use Rattle.std.proofs.Common.{length, ◌-◌, ◌≡◌, ◌≤◌, [], map}
use Rattle.std.specs.Prelude.{None}
use Rattle.std.specs.Arc.{arc_value}
use Rattle.sy_escapes.specs.Sinks.{rest}
use Rattle.sy_escapes.specs.internal.Runs.{Run}
use Rattle.sy_escapes.proofs.sink.EscapedSink.write_all.Given as goal

abbrev pub invariant-loop-taken : goal.invariant-loop-taken
invariant-loop-taken g l = record {
  within : l.taken ≤ length l.messages;
  nothing : rest l.self.batch ≡ [];
  faults : g.W.Sink.faults l.self.writer ≡ g.W.Sink.faults l.fn.self.writer;
  run : Run (g.W.Sink.contents l.fn.self.writer) (g.W.Sink.contents l.self.writer) l.fn.self.batch l.self.batch (map arc_value l.messages) l.taken None;
}

abbrev pub decreases-loop-taken : goal.decreases-loop-taken
decreases-loop-taken g l = length l.messages - l.taken
