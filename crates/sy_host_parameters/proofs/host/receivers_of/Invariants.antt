use Rattle.std.proofs.Common.{◌≡◌, ◌++◌, length, map, flat_map}
use Rattle.sy_rules.specs.items.ItemViews.{item}
use Rattle.sy_host_parameters.specs.Hosts.{receivers_in}
use Rattle.sy_host_parameters.proofs.host.receivers_of.Given as goal

abbrev pub invariant-loop-rest : goal.invariant-loop-rest
invariant-loop-rest l =
    l.receivers.items ++ flat_map (receivers_in l.usual) (map item l.rest) ≡ flat_map (receivers_in l.usual) (map item l.items)

abbrev pub decreases-loop-rest : goal.decreases-loop-rest
decreases-loop-rest l = length l.rest
