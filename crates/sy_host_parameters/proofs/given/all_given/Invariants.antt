use Rattle.std.proofs.Common.{◌≡◌, ◌++◌, length, map, flat_map}
use Rattle.sy_rules.specs.items.ItemViews.{item}
use Rattle.sy_rules.specs.items.Outline.{items}
use Rattle.sy_host_parameters.specs.HostParameters.{given_in}
use Rattle.sy_host_parameters.proofs.given.all_given.Given as goal

abbrev pub invariant-loop-rest : goal.invariant-loop-rest
invariant-loop-rest l = l.found.items ++ flat_map given_in (map item l.rest) ≡ flat_map given_in (items l.script)

abbrev pub decreases-loop-rest : goal.decreases-loop-rest
decreases-loop-rest l = length l.rest
