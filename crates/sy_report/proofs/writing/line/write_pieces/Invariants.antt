use Rattle.std.proofs.Common.{◌≡◌, ◌++◌, ℕ, List, length}
use Rattle.std.specs.Io.KnownBytes.{Appends}
use Rattle.sy_report.specs.Printed.{printed}
use Rattle.sy_report.proofs.writing.line.write_pieces.Given as goal

-- what was written, and what is printed of the rest
abbrev pub invariant-loop-piece : goal.invariant-loop-piece
invariant-loop-piece g l = record {
  wrote :
      (front : List ℕ) × Appends (g.W.Sink.contents l.initial.writer) (g.W.Sink.contents l.writer) front × (printed l.name ≡ front ++ printed l.rest);
  same : g.W.Sink.faults l.writer ≡ g.W.Sink.faults l.initial.writer;
}

abbrev pub decreases-loop-piece : goal.decreases-loop-piece
decreases-loop-piece g l = length l.rest
