use Rattle.std.proofs.Common.{◌≤◌, arith}
use Rattle.sy_warnings.proofs.Blocking.{all_held, held_at}
use Rattle.sy_warnings.proofs.holders.holders_by.Goals as goal

pub returns : goal.returns
returns c =
    let end = c.loop-relay-test.false in
    let many = c.relays-relay-end.ensures in
    all_held c.args.site.now c.loop-relay.relay c.loop-relay.found.items
    (λ r a how holds. (let low = held_at c.args.site.now c.is_lawful.ensures r a how holds in omega (arith, low, end, many)))
    c.loop-relay.invariant
