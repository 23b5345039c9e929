use Rattle.sy_wire.proofs.Digits.{HasDigits}
use Rattle.sy_unread.proofs.unframed.fault_of.Given as goal

abbrev pub invariant-loop-i : goal.invariant-loop-i
invariant-loop-i l = HasDigits l.bytes l.i l.size
