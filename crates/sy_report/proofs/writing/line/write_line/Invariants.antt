use Rattle.std.proofs.Common.{◌≡◌, map, take}
use Rattle.std.specs.Io.KnownBytes.{Appends}
use Rattle.sy_report.specs.LineTexts.{line_of}
use Rattle.sy_report.proofs.writing.line.write_line.Given as goal

abbrev pub invariant-loop-text : goal.invariant-loop-text
invariant-loop-text g l = record {
  wrote : Appends (g.W.Sink.contents l.initial.writer) (g.W.Sink.contents l.writer) (line_of (take l.text-index l.texts));
  same : g.W.Sink.faults l.writer ≡ g.W.Sink.faults l.initial.writer;
}
