use Rattle.std.proofs.Common.{◌≡◌, length}
use Rattle.sy_host_parameters.specs.HostParameters.{may_give}
use Rattle.sy_host_parameters.proofs.machine.may_give.Given as goal

abbrev pub invariant-loop-rest : goal.invariant-loop-rest
invariant-loop-rest l = may_give l.rest ≡ may_give l.text

abbrev pub decreases-loop-rest : goal.decreases-loop-rest
decreases-loop-rest l = length l.rest
