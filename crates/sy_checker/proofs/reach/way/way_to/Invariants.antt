use Rattle.std.proofs.Common.{◌<◌, List, length}
use Rattle.sy_wire.specs.declared.class.Class.{Class}
use Rattle.sy_site.specs.declared.site.SiteInput.{SiteInput}
use Rattle.sy_site.specs.Sites.{Site}
use Rattle.sy_flows.specs.declared.flows.executed.Executed.{Executed}
use Rattle.sy_flows.specs.Search.{AreRooted}
use Rattle.sy_checker.proofs.Ways.{HasWay}
use Rattle.sy_checker.proofs.reach.way.way_to.Given as goal

abbrev pub invariant-loop-origin : goal.invariant-loop-origin
invariant-loop-origin l = (l.at < length l.found.inputs.items)
    × ((site : Site) (class : Class) (which : Executed) (start : List SiteInput)
    → AreRooted site class which start l.found.inputs.items l.found.origins.items
    → HasWay site class which l.found.inputs.items l.fn.place l.at l.back.items)

abbrev pub decreases-loop-origin : goal.decreases-loop-origin
decreases-loop-origin l = l.at
