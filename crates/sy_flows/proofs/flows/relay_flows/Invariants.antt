use Rattle.std.proofs.Common.{◌≡◌, ◌≤◌, true, length}
use Rattle.sy_site.specs.Sites.{plan_at}
use Rattle.sy_flows.specs.Flows.{AreEach, IsFlow, is_used}
use Rattle.sy_flows.proofs.flows.relay_flows.Given as goal

abbrev pub invariant-loop-list : goal.invariant-loop-list
invariant-loop-list l = record {
  each : AreEach (λ list flow. is_used (plan_at l.fn.site l.fn.relay) list ≡ true → IsFlow l.fn.site l.fn.class l.fn.relay list flow) l.list l.lists.items;
  all : l.many ≡ length (plan_at l.fn.site l.fn.relay).lists;
  within : l.list ≤ l.many;
}
