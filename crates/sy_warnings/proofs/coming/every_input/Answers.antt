use Rattle.std.proofs.Common.{arith, subst, sym}
use Rattle.sy_warnings.specs.internal.Following.{AreInputsBelow}
use Rattle.sy_warnings.proofs.Starting.{inputs_all, inputs_none}
use Rattle.sy_warnings.proofs.coming.every_input.Goals as goal

pub loop-relay-init : goal.loop-relay-init
loop-relay-init c = subst (AreInputsBelow c.args.site.now 0) (sym c.new-found.ensures.items) (inputs_none c.args.site.now)

pub loop-relay-preserved : goal.loop-relay-preserved
loop-relay-preserved c = c.in_ok-push_inputs.ensures c.loop-relay.invariant

pub returns : goal.returns
returns c =
    let many = c.relays-relay-end.ensures in
    let end = c.loop-relay-test.false in
    inputs_all c.args.site.now c.loop-relay.relay c.loop-relay.found.items (omega (arith, many, end)) c.loop-relay.invariant
