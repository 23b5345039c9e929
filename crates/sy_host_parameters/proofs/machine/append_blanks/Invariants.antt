use Rattle.std.proofs.Common.{◌≡◌, ◌++◌, length, map}
use Rattle.sy_host_parameters.specs.HostParameters.{blank_of}
use Rattle.sy_host_parameters.proofs.machine.append_blanks.Given as goal

abbrev pub invariant-loop-rest : goal.invariant-loop-rest
invariant-loop-rest l = l.machine.items ++ map blank_of l.rest ≡ l.initial.machine.items ++ map blank_of l.bytes

abbrev pub decreases-loop-rest : goal.decreases-loop-rest
decreases-loop-rest l = length l.rest
