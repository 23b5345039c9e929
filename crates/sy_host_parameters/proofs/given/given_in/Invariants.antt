use Rattle.std.proofs.Common.{◌≡◌, length}
use Rattle.sy_rules.specs.items.ItemViews.{item}
use Rattle.sy_host_parameters.specs.HostParameters as spec
use Rattle.sy_host_parameters.proofs.given.given_in.Given as goal

abbrev pub invariant-loop-rest : goal.invariant-loop-rest
invariant-loop-rest l = (l.holder ≡ spec.holder_of (item l.item)) × (spec.given_after l.holder l.found.items l.rest ≡ spec.given_in (item l.item))

abbrev pub decreases-loop-rest : goal.decreases-loop-rest
decreases-loop-rest l = length l.rest
