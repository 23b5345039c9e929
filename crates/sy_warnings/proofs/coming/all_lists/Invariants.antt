use Rattle.sy_warnings.specs.internal.Following.{AreOfAllBelow}
use Rattle.sy_warnings.proofs.coming.all_lists.Given as goal

abbrev pub invariant-loop-number : goal.invariant-loop-number
invariant-loop-number l = AreOfAllBelow l.site l.by l.number l.all.items
