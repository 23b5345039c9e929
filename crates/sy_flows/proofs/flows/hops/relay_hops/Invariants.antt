use Rattle.std.proofs.Common.{◌≡◌, ◌≤◌, true, length}
use Rattle.sy_site.specs.Sites.{plan_at}
use Rattle.sy_flows.specs.declared.flows.ListHops.{ListHops}
use Rattle.sy_flows.specs.Flows.{AreEach}
use Rattle.sy_flows.specs.Hops.{AreListHops, is_input_list}
use Rattle.sy_flows.proofs.flows.hops.relay_hops.Given as goal

abbrev pub invariant-loop-list : goal.invariant-loop-list
invariant-loop-list l = record {
  each : AreEach
      (λ list (of : ListHops). is_input_list (plan_at l.fn.site l.fn.relay) list ≡ true → AreListHops l.fn.site l.fn.class l.fn.which l.fn.relay list of)
      l.list l.lists.items;
  all : l.many ≡ length (plan_at l.fn.site l.fn.relay).lists;
  within : l.list ≤ l.many;
}
