use Rattle.sy_warnings.specs.internal.Following.{AreInputsBelow}
use Rattle.sy_warnings.proofs.Starting.{AreInputsTo}
use Rattle.sy_warnings.proofs.coming.push_inputs.Given as goal

abbrev pub invariant-loop-input : goal.invariant-loop-input
invariant-loop-input l = AreInputsBelow l.site l.relay l.initial.found.items → AreInputsTo l.site l.relay l.input l.found.items
