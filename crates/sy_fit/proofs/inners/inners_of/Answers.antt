use Rattle.std.proofs.Common.{◌<◌, arith, length, subst, sym}
use Rattle.sy_fit.specs.internal.Inners.{AreInners}
use Rattle.sy_fit.specs.internal.Order.{AreOf}
use Rattle.sy_fit.proofs.InnersSorted.{inners_all, inners_first, inners_relay, reached_of}
use Rattle.sy_fit.proofs.inners.inners_of.Goals as goal

pub loop-relay-init : goal.loop-relay-init
loop-relay-init c = subst (AreInners c.args.site.now c.args.class 0 0) (sym c.new-inners.ensures.items) (inners_first c.args.site.now c.args.class)

pub push_inners-requires : goal.push_inners-requires
push_inners-requires c = record {
  there = omega (arith, c.loop-relay-test.true, c.relays-relay-end.ensures);
  own = reached_of c.args.site.now c.args.class c.args.firm.now c.loop-relay.relay c.as_slice.result.now c.requires.firm
      (subst (AreOf c.args.firm.now c.loop-relay.relay) (sym c.as_slice.ensures.value) c.in_ok-own.ensures);
  flows = c.requires.flows;
  inners = c.loop-relay.invariant;
}

pub loop-relay-preserved : goal.loop-relay-preserved
loop-relay-preserved c =
    inners_relay c.args.site.now c.is_lawful.ensures c.args.class c.loop-relay.relay c.push_inners.new.inners.items c.in_ok-push_inners.ensures

pub returns : goal.returns
returns c =
    inners_all c.args.site.now c.is_lawful.ensures c.args.class c.loop-relay.relay c.loop-relay.inners.items
    (omega (arith, c.loop-relay-test.false, c.relays-relay-end.ensures)) c.loop-relay.invariant
