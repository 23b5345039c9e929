use Rattle.std.proofs.Common.{◌≡◌, length}
use Rattle.sy_host_parameters.specs.Hosts.{value_in}
use Rattle.sy_host_parameters.proofs.host.value_in.Given as goal

abbrev pub invariant-loop-rest : goal.invariant-loop-rest
invariant-loop-rest l = value_in l.parameter l.rest ≡ value_in l.parameter l.found

abbrev pub decreases-loop-rest : goal.decreases-loop-rest
decreases-loop-rest l = length l.rest
