use Rattle.std.proofs.Common.{◌-◌}
use Rattle.sy_flows.specs.Leads.{AreFound}
use Rattle.sy_flows.specs.internal.Marks.{AreListsMarked}
use Rattle.sy_flows.proofs.Led.{AreLed}
use Rattle.sy_flows.proofs.lists.lists_from.Given as goal

abbrev pub invariant-loop-done : goal.invariant-loop-done
invariant-loop-done l = record {
  marked : AreListsMarked l.found.lists.items l.marks.items;
  found : AreFound l.site l.class l.start l.found.lists.items l.found.origins.items;
  led : AreLed l.site l.class l.found.lists.items l.done;
}

abbrev pub decreases-loop-done : goal.decreases-loop-done
decreases-loop-done l = 32832 - l.done
