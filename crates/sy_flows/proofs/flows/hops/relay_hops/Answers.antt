use Rattle.std.proofs.Common.{◌≡◌, ◌+◌, true, arith, subst, sym}
use Rattle.sy_site.specs.Sites.{plan_at}
use Rattle.sy_flows.specs.declared.flows.ListHops.{ListHops}
use Rattle.sy_flows.specs.Flows.{AreEach}
use Rattle.sy_flows.specs.Hops.{AreListHops, is_input_list}
use Rattle.sy_flows.proofs.Flowing.{each_more}
use Rattle.sy_flows.proofs.flows.hops.relay_hops.Goals as goal

pub loop-list-preserved : goal.loop-list-preserved
loop-list-preserved c =
    let below = c.loop-list-test.true in
    record {
      each = subst
          (AreEach (λ list (of : ListHops). is_input_list (plan_at c.args.site.now c.args.relay) list ≡ true
          → AreListHops c.args.site.now c.args.class c.args.which c.args.relay list of) (c.loop-list.list + 1))
          (sym c.in_ok-push.ensures.items)
          (each_more
          (λ list (of : ListHops). is_input_list (plan_at c.args.site.now c.args.relay) list ≡ true
          → AreListHops c.args.site.now c.args.class c.args.which c.args.relay list of)
          c.loop-list.list c.loop-list.lists.items c.in_ok-found.found c.loop-list.invariant.each c.in_ok-found.ensures);
      all = c.loop-list.invariant.all;
      within = omega (arith, below);
    }
