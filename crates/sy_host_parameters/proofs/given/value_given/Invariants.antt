use Rattle.std.proofs.Common.{◌≡◌, length}
use Rattle.sy_rules.specs.parameters.Values.{given}
use Rattle.sy_host_parameters.proofs.given.value_given.Given as goal

abbrev pub invariant-loop-rest : goal.invariant-loop-rest
invariant-loop-rest l = given l.name l.rest ≡ given l.name l.params

abbrev pub decreases-loop-rest : goal.decreases-loop-rest
decreases-loop-rest l = length l.rest
