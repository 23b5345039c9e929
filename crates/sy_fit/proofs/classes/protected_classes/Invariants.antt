use Rattle.sy_fit.specs.internal.Order.{AreProtectedBelow}
use Rattle.sy_fit.proofs.classes.protected_classes.Given as goal

abbrev pub invariant-loop-number : goal.invariant-loop-number
invariant-loop-number l = AreProtectedBelow l.site l.number l.found.items
