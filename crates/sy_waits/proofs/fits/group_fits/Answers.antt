use Rattle.std.proofs.Common.{arith, length, subst}
use Rattle.sy_waits.specs.internal.Fits.{AreInputsMarked, RelayFits, RelaysFitBelow}
use Rattle.sy_waits.proofs.Below.{one_more_below}
use Rattle.sy_waits.proofs.fits.group_fits.Goals as goal

pub loop-relay-preserved : goal.loop-relay-preserved
loop-relay-preserved c =
    let below = c.loop-relay-test.true in
    record {
      each = one_more_below (λ relay. AreInputsMarked c.args.site.now c.as_slice-marks.result.now relay
          × RelayFits c.args.site.now c.args.group.now.class c.args.of c.args.numbers.now c.as_slice-marks.result.now relay)
          c.loop-relay.relay c.loop-relay.invariant.each
          (c.inputs_are_marked.ensures c.if-not-inputs_are_marked.false, c.lists_fit.ensures c.if-not-lists_fit.false);
      all = c.loop-relay.invariant.all;
      within = omega (arith, below);
    }

pub returns : goal.returns
returns c = λ yes. subst (λ m. RelaysFitBelow c.args.site.now c.args.group.now.class c.args.of c.args.numbers.now m (length c.args.site.now.relays))
    c.as_slice-marks.ensures.value (λ relay low.
    (let all = c.loop-relay.invariant.all in
    let past = c.loop-relay-test.false in
    c.loop-relay.invariant.each relay (omega (arith, low, all, past))))
