use Rattle.std.proofs.Common.{take}
use Rattle.std.specs.Prelude.{Contains}
use Rattle.sy_wire.specs.declared.class.Class.{Class}
use Rattle.sy_site.specs.Sites.{Site}
use Rattle.sy_flows.specs.declared.flows.executed.Executed.{Executed}
use Rattle.sy_flows.specs.internal.Found.{Adds}
use Rattle.sy_flows.specs.internal.Marks.{AreMarked}
use Rattle.sy_flows.specs.internal.Search.{KeepsRoots}
use Rattle.sy_flows.proofs.reach.add_all.Given as goal

abbrev pub invariant-loop-input : goal.invariant-loop-input
invariant-loop-input l = Adds (Contains (take l.input-index l.start)) l.initial.found.inputs.items l.found.inputs.items
    × ((site : Site) (class : Class) (which : Executed)
    → KeepsRoots site class which l.start l.initial.found.inputs.items l.initial.found.origins.items l.found.inputs.items l.found.origins.items)
    × AreMarked l.found.inputs.items l.marks.items
