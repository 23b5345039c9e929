use Rattle.std.proofs.Common.{length, map}
use Rattle.sy_journal.specs.internal.Reading.{BeginsWithFrames}
use Rattle.sy_journal.proofs.reading.read_frames.Given as goal

abbrev pub invariant-loop-content : goal.invariant-loop-content
invariant-loop-content l = BeginsWithFrames l.bytes (map (λ v. v.items) l.contents.items) l.rest

abbrev pub decreases-loop-content : goal.decreases-loop-content
decreases-loop-content l = length l.rest
