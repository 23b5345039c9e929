use Rattle.std.proofs.Common.{◌≡◌, ◌≤◌, length}
use Rattle.sy_site.specs.Sites.{plan_at}
use Rattle.sy_flows.specs.Flows.{AreEach, IsFirm}
use Rattle.sy_flows.proofs.flows.firm.relay_firm.Given as goal

abbrev pub invariant-loop-list : goal.invariant-loop-list
invariant-loop-list l = record {
  each : AreEach (IsFirm l.fn.site l.fn.relay) l.list l.lists.items;
  all : l.many ≡ length (plan_at l.fn.site l.fn.relay).lists;
  within : l.list ≤ l.many;
}
