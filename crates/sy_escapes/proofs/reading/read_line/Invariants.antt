use Rattle.std.proofs.Common.{length}
use Rattle.sy_escapes.specs.internal.Readings.{Reads}
use Rattle.sy_escapes.proofs.reading.read_line.Given as goal

abbrev pub invariant-loop-rest : goal.invariant-loop-rest
invariant-loop-rest l = Reads l.line l.bytes.items l.rest

abbrev pub decreases-loop-rest : goal.decreases-loop-rest
decreases-loop-rest l = length l.rest
