use Rattle.std.proofs.Common.{length}
use Rattle.sy_journal.specs.Finishes.{AllSet}
use Rattle.sy_journal.proofs.finishes.all_set.Given as goal

abbrev pub invariant-loop-rest : goal.invariant-loop-rest
invariant-loop-rest l = AllSet l.rest → AllSet l.finishes

abbrev pub decreases-loop-rest : goal.decreases-loop-rest
decreases-loop-rest l = length l.rest
