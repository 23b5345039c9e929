use Rattle.std.proofs.Common.{◌≡◌, ◌++◌, drop, map}
use Rattle.sy_endpoints.specs.Outlets as spec
use Rattle.sy_endpoints.proofs.outlets.outlets.Given as goal

-- what was found, and the actions that are left
abbrev pub invariant-loop-action : goal.invariant-loop-action
invariant-loop-action l =
    map spec.place_of l.found.items ++ map (spec.place_for_action l.site) (drop l.action-index l.action-items)
    ≡ map (spec.place_for_action l.site) l.action-items
