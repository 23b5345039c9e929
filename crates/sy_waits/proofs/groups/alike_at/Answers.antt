use Rattle.std.proofs.Common.{arith}
use Rattle.sy_waits.specs.internal.Groups.{AlikeIn}
use Rattle.sy_waits.proofs.Below.{one_more_below}
use Rattle.sy_waits.proofs.groups.alike_at.Goals as goal

pub loop-list-preserved : goal.loop-list-preserved
loop-list-preserved c =
    let below = c.loop-list-test.true in
    record {
      each = one_more_below (AlikeIn c.args.site.now c.args.class c.args.group.now c.args.relay) c.loop-list.list c.loop-list.invariant.each
          (c.alike_in.ensures c.if-not-alike_in.false);
      all = c.loop-list.invariant.all;
      within = omega (arith, below);
    }

pub returns : goal.returns
returns c = λ yes list low.
    (let all = c.loop-list.invariant.all in
    let past = c.loop-list-test.false in
    c.loop-list.invariant.each list (omega (arith, low, all, past)))
