use Rattle.std.proofs.Common.{◌≡◌, ◌+◌, true, arith, subst, sym}
use Rattle.sy_site.specs.Sites.{plan_at}
use Rattle.sy_flows.specs.declared.flows.ListFlows.{ListFlows}
use Rattle.sy_flows.specs.Flows.{AreEach, IsFlow, is_used}
use Rattle.sy_flows.proofs.Flowing.{each_more}
use Rattle.sy_flows.proofs.flows.relay_flows.Goals as goal

pub loop-list-preserved : goal.loop-list-preserved
loop-list-preserved c =
    let below = c.loop-list-test.true in
    record {
      each = subst
          (AreEach (λ list (flow : ListFlows). is_used (plan_at c.args.site.now c.args.relay) list ≡ true
          → IsFlow c.args.site.now c.args.class c.args.relay list flow) (c.loop-list.list + 1))
          (sym c.in_ok-push.ensures.items)
          (each_more
          (λ list (flow : ListFlows). is_used (plan_at c.args.site.now c.args.relay) list ≡ true
          → IsFlow c.args.site.now c.args.class c.args.relay list flow)
          c.loop-list.list c.loop-list.lists.items c.used_flows-flows.result c.loop-list.invariant.each c.used_flows-flows.ensures);
      all = c.loop-list.invariant.all;
      within = omega (arith, below);
    }
