use Rattle.std.proofs.Common.{◌≡◌, ◌++◌, drop, map}
use Rattle.sy_outlets.specs.Ports.{ports_from}
use Rattle.sy_inputs.specs.Listened.{at_of}
use Rattle.sy_inputs.proofs.listening.listen_all.Given as goal

-- what is listened at, and the inputs that are left
abbrev pub invariant-loop-input : goal.invariant-loop-input
invariant-loop-input g l =
    (l.number ≡ l.input-index) × (map at_of l.found.items ++ ports_from l.number (drop l.input-index l.inputs) ≡ ports_from 0 l.inputs)
