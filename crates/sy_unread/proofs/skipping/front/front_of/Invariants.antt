use Rattle.sy_unread.proofs.Fronts.{HasDigits}
use Rattle.sy_unread.proofs.skipping.front.front_of.Given as goal

abbrev pub invariant-loop-i : goal.invariant-loop-i
invariant-loop-i l = HasDigits l.bytes l.i l.size
