use Rattle.std.proofs.Common.{◌≡◌, ◌++◌, length}
use Rattle.sy_host_parameters.specs.HostParameters.{blanked}
use Rattle.sy_host_parameters.proofs.machine.blanked.Given as goal

abbrev pub invariant-loop-rest : goal.invariant-loop-rest
invariant-loop-rest l = l.machine.items ++ blanked l.text l.at l.rest ≡ blanked l.text 0 l.all

abbrev pub decreases-loop-rest : goal.decreases-loop-rest
decreases-loop-rest l = length l.rest
