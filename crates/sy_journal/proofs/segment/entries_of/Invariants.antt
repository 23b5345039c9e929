use Rattle.std.proofs.Common.{length, map}
use Rattle.sy_journal.specs.internal.Reading.{AreFront}
use Rattle.sy_journal.proofs.segment.entries_of.Given as goal

abbrev pub invariant-loop-rest : goal.invariant-loop-rest
invariant-loop-rest l = AreFront (map (λ v. v.items) l.contents) (map (λ v. v.items) l.entries.items) (map (λ v. v.items) l.rest)

abbrev pub decreases-loop-rest : goal.decreases-loop-rest
decreases-loop-rest l = length l.rest
