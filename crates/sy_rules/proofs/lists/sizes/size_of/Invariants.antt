use Rattle.std.proofs.Common.{length}
use Rattle.sy_rules.specs.internal.TableSizes.{size_at}
use Rattle.sy_rules.proofs.lemmas.lists.SizeSums.{IsSized}
use Rattle.sy_rules.proofs.lists.sizes.size_of.Given as goal

abbrev pub invariant-loop-rest : goal.invariant-loop-rest
invariant-loop-rest l = IsSized (size_at l.inner l.outside) l.size l.rest l.statements

abbrev pub decreases-loop-rest : goal.decreases-loop-rest
decreases-loop-rest l = length l.rest
