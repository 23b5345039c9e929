use Rattle.std.proofs.Common.{◌-◌}
use Rattle.sy_flows.specs.internal.Marks.{AreMarked}
use Rattle.sy_flows.proofs.Gone.{HasGone}
use Rattle.sy_flows.proofs.reach.spread.Given as goal

abbrev pub invariant-loop-done : goal.invariant-loop-done
invariant-loop-done l = HasGone l.site l.class l.which l.start l.found.inputs.items l.found.origins.items l.done × AreMarked l.found.inputs.items l.marks.items

abbrev pub decreases-loop-done : goal.decreases-loop-done
decreases-loop-done l = 4096 - l.done
