use Rattle.std.proofs.Common.{arith}
use Rattle.sy_waits.specs.internal.Groups.{AlikeAt}
use Rattle.sy_waits.proofs.Below.{one_more_below}
use Rattle.sy_waits.proofs.groups.is_alike.Goals as goal

pub loop-relay-preserved : goal.loop-relay-preserved
loop-relay-preserved c =
    let below = c.loop-relay-test.true in
    record {
      each = one_more_below (AlikeAt c.args.site.now c.args.class c.args.group.now) c.loop-relay.relay c.loop-relay.invariant.each
          (c.alike_at.ensures c.if-not-alike_at.false);
      all = c.loop-relay.invariant.all;
      within = omega (arith, below);
    }
