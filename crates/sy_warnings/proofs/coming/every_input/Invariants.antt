use Rattle.sy_warnings.specs.internal.Following.{AreInputsBelow}
use Rattle.sy_warnings.proofs.coming.every_input.Given as goal

abbrev pub invariant-loop-relay : goal.invariant-loop-relay
invariant-loop-relay l = AreInputsBelow l.site l.relay l.found.items
