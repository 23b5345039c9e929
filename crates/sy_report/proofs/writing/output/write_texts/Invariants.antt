use Rattle.std.proofs.Common.{◌≡◌, map, take}
use Rattle.std.specs.Io.KnownBytes.{Appends}
use Rattle.sy_report.specs.Reports.{joined}
use Rattle.sy_report.proofs.writing.output.write_texts.Given as goal

abbrev pub invariant-loop-text : goal.invariant-loop-text
invariant-loop-text g l = record {
  wrote : Appends (g.W.Sink.contents l.initial.writer) (g.W.Sink.contents l.writer) (joined (map (λ text. text.now) (take l.text-index l.texts)));
  same : g.W.Sink.faults l.writer ≡ g.W.Sink.faults l.initial.writer;
}
