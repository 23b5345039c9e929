use Rattle.std.proofs.Common.{◌≤◌, arith}
use Rattle.sy_warnings.proofs.Blocking.{held_there, relay_done}
use Rattle.sy_warnings.proofs.holders.push_relay.Goals as goal

pub loop-action-preserved : goal.loop-action-preserved
loop-action-preserved c = λ below. c.in_ok-push_action.ensures (c.loop-action.invariant below)

pub returns : goal.returns
returns c = λ below.
    (let end = c.loop-action-test.false in
    let many = c.actions_of-action-end.ensures in
    relay_done c.args.site.now c.args.relay c.loop-action.action c.loop-action.found.items
    (λ a how holds. (let low = held_there c.args.site.now c.is_lawful.ensures c.args.relay a how holds in omega (arith, low, end, many)))
    (c.loop-action.invariant below))
