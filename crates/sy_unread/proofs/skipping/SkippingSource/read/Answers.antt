use Rattle.std.proofs.Common.{refl}
use Rattle.std.proofs.KnownBytes.{Keeps-refl}
use Rattle.sy_unread.specs.Skipping.{rests}
use Rattle.sy_unread.proofs.Turns.{hands_held, reads, stays}
use Rattle.sy_unread.proofs.skipping.SkippingSource.read.Goals as goal

pub returns-then-is_empty-clause-reads : goal.returns-then-is_empty-clause-reads
returns-then-is_empty-clause-reads g c = reads _ _ _ _ _ _ _ _ _ _ (stays _ _ _ _ (Keeps-refl _)) (hands_held _ _ _ _ rests) refl
