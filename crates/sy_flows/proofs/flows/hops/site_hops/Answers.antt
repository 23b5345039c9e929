use Rattle.std.proofs.Common.{◌+◌, arith, subst, sym}
use Rattle.sy_flows.specs.Flows.{AreEach}
use Rattle.sy_flows.specs.Hops.{AreRelayHops}
use Rattle.sy_flows.proofs.Flowing.{each_more}
use Rattle.sy_flows.proofs.flows.hops.site_hops.Goals as goal

pub loop-relay-preserved : goal.loop-relay-preserved
loop-relay-preserved c =
    let below = c.loop-relay-test.true in
    record {
      each = subst (AreEach (AreRelayHops c.args.site.now c.args.class c.args.which) (c.loop-relay.relay + 1)) (sym c.in_ok-push.ensures.items)
          (each_more (AreRelayHops c.args.site.now c.args.class c.args.which) c.loop-relay.relay c.loop-relay.relays.items c.in_ok-hops.hops
          c.loop-relay.invariant.each c.in_ok-hops.ensures);
      all = c.loop-relay.invariant.all;
      within = omega (arith, below);
    }
