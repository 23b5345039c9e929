use Rattle.std.proofs.Common.{◌≡◌}
use Rattle.sy_warnings.proofs.Held.{AreNeededBelow}
use Rattle.sy_warnings.proofs.holding.needed_lists.Given as goal

abbrev pub invariant-loop-list : goal.invariant-loop-list
invariant-loop-list l = AreNeededBelow l.site l.relay l.list l.needed.items
