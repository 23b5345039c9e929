use Rattle.std.proofs.Common.{◌≡◌, ◌++◌, length, map, flat_map}
use Rattle.sy_rules.specs.items.ItemViews.{item}
use Rattle.sy_host_parameters.specs.Hosts.{named_in, named_of}
use Rattle.sy_host_parameters.proofs.names.names_of.Given as goal

abbrev pub invariant-loop-rest : goal.invariant-loop-rest
invariant-loop-rest l = map named_of l.all.items ++ flat_map named_in (map item l.rest) ≡ flat_map named_in (map item l.items)

abbrev pub decreases-loop-rest : goal.decreases-loop-rest
decreases-loop-rest l = length l.rest
