use Rattle.std.proofs.Common.{◌≡◌, take}
use Rattle.sy_warnings.proofs.coming.copy.Given as goal

abbrev pub invariant-loop-input : goal.invariant-loop-input
invariant-loop-input l = l.copied.items ≡ take l.input-index l.inputs
