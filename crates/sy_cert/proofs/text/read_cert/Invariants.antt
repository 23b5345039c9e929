use Rattle.std.proofs.Common.{length}
use Rattle.sy_cert.specs.Faults.{BeginsWith}
use Rattle.sy_cert.proofs.text.read_cert.Given as goal

-- the rows so far, and what is left to read
abbrev pub invariant-loop-rest : goal.invariant-loop-rest
invariant-loop-rest l = BeginsWith l.bytes l.certificate.version l.certificate.rows l.rest

abbrev pub decreases-loop-rest : goal.decreases-loop-rest
decreases-loop-rest l = length l.rest
