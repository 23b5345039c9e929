use Rattle.std.proofs.Common.{◌≡◌, List, Some, take}
use Rattle.std.specs.Prelude.{slice_get}
use Rattle.sy_site.specs.declared.site.SiteInput.{SiteInput}
use Rattle.sy_flows.specs.internal.Hops.{HasHop}
use Rattle.sy_flows.specs.internal.Found.{Adds}
use Rattle.sy_flows.specs.internal.Marks.{AreMarked}
use Rattle.sy_flows.specs.internal.Search.{KeepsRoots}
use Rattle.sy_flows.proofs.reach.add_targets.Given as goal

abbrev pub invariant-loop-hop : goal.invariant-loop-hop
invariant-loop-hop l = Adds (HasHop (take l.hop-index l.own)) l.initial.found.inputs.items l.found.inputs.items
    × ((start : List SiteInput) → slice_get l.initial.found.inputs.items l.place ≡ Some l.from
    → KeepsRoots l.fn.site l.fn.class l.fn.which start l.initial.found.inputs.items l.initial.found.origins.items l.found.inputs.items l.found.origins.items)
    × AreMarked l.found.inputs.items l.marks.items
