use Rattle.std.proofs.Common.{◌≡◌, length, map}
use Rattle.sy_host_parameters.specs.HostParameters.{begins_with_one}
use Rattle.sy_host_parameters.proofs.machine.begins_with_one.Given as goal

abbrev pub invariant-loop-names : goal.invariant-loop-names
invariant-loop-names l = begins_with_one l.text (map (λ name. name.now) l.names) ≡ begins_with_one l.text (map (λ name. name.now) l.initial.names)

abbrev pub decreases-loop-names : goal.decreases-loop-names
decreases-loop-names l = length l.names
