use Rattle.std.proofs.Common.{◌+◌, arith, subst, sym}
use Rattle.sy_flows.specs.Flows.{AreEach, IsFirm}
use Rattle.sy_flows.proofs.Flowing.{each_more}
use Rattle.sy_flows.proofs.flows.firm.relay_firm.Goals as goal

pub loop-list-preserved : goal.loop-list-preserved
loop-list-preserved c =
    let below = c.loop-list-test.true in
    record {
      each = subst (AreEach (IsFirm c.args.site.now c.args.relay) (c.loop-list.list + 1)) (sym c.in_ok-push.ensures.items)
          (each_more (IsFirm c.args.site.now c.args.relay) c.loop-list.list c.loop-list.lists.items c.firm_set.result
          c.loop-list.invariant.each c.firm_set.ensures);
      all = c.loop-list.invariant.all;
      within = omega (arith, below);
    }
