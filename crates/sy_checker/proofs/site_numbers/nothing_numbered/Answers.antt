use Rattle.std.proofs.Common.{◌+◌, arith, subst, sym}
use Rattle.sy_flows.specs.Flows.{AreEach}
use Rattle.sy_checker.specs.internal.Inner.{HasNone}
use Rattle.sy_flows.proofs.Flowing.{each_more}
use Rattle.sy_checker.proofs.site_numbers.nothing_numbered.Goals as goal

pub loop-relay-preserved : goal.loop-relay-preserved
loop-relay-preserved c =
    let below = c.loop-relay-test.true in
    record {
      each = subst (AreEach HasNone (c.loop-relay.relay + 1)) (sym c.in_ok-push.ensures.items)
          (each_more HasNone c.loop-relay.relay c.loop-relay.numbers.items (record { lists = c.new-lists.result }) c.loop-relay.invariant.each
          c.new-lists.ensures.items);
      all = c.loop-relay.invariant.all;
      within = omega (arith, below);
    }
