use Rattle.std.proofs.Common.{◌-◌}
use Rattle.sy_flows.specs.Leads.{AreFound}
use Rattle.sy_flows.specs.internal.Leads.{HasMore}
use Rattle.sy_flows.specs.internal.Marks.{AreListsMarked}
use Rattle.sy_flows.proofs.Led.{IsLedBelow}
use Rattle.sy_flows.proofs.lists.add_leads.Given as goal

abbrev pub invariant-loop-number : goal.invariant-loop-number
invariant-loop-number l = record {
  marked : AreListsMarked l.found.lists.items l.marks.items;
  found : AreFound l.site l.class l.start l.found.lists.items l.found.origins.items;
  more : HasMore l.initial.found.lists.items l.found.lists.items;
  led : IsLedBelow l.site l.class l.found.lists.items l.from l.next;
}

abbrev pub decreases-loop-number : goal.decreases-loop-number
decreases-loop-number l = 64 - l.next
