use Rattle.std.proofs.Common.{◌+◌, arith, subst, sym}
use Rattle.sy_flows.specs.Flows.{AreEach, AreRelayFirm}
use Rattle.sy_flows.proofs.Flowing.{each_more}
use Rattle.sy_flows.proofs.flows.firm.firm_of.Goals as goal

pub loop-relay-preserved : goal.loop-relay-preserved
loop-relay-preserved c =
    let below = c.loop-relay-test.true in
    record {
      each = subst (AreEach (AreRelayFirm c.args.site.now) (c.loop-relay.relay + 1)) (sym c.in_ok-push.ensures.items)
          (each_more (AreRelayFirm c.args.site.now) c.loop-relay.relay c.loop-relay.relays.items c.in_ok-sets.sets
          c.loop-relay.invariant.each c.in_ok-sets.ensures);
      all = c.loop-relay.invariant.all;
      within = omega (arith, below);
    }
