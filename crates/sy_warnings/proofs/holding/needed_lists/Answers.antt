use Rattle.std.proofs.Common.{◌+◌, arith, subst, sym}
use Rattle.sy_warnings.proofs.Held.{AreNeededBelow, needed_all, needed_first, needed_more}
use Rattle.sy_warnings.proofs.holding.needed_lists.Goals as goal

pub loop-list-init : goal.loop-list-init
loop-list-init c = subst (AreNeededBelow c.args.site.now c.args.relay 0) (sym c.in_ok-needed.ensures.items) (needed_first c.args.site.now c.args.relay)

pub loop-list-preserved : goal.loop-list-preserved
loop-list-preserved c =
    subst (AreNeededBelow c.args.site.now c.args.relay (c.loop-list.list + 1)) (sym c.in_ok-push.ensures.items)
    (needed_more c.args.site.now c.args.relay c.loop-list.list c.loop-list.needed.items c.has_needed.result c.has_needed.ensures c.loop-list.invariant)

pub returns : goal.returns
returns c =
    let many = c.lists_of-many.ensures in
    let end = c.loop-list-test.false in
    let within = c.loop-list.auto.list-end in
    needed_all c.args.site.now c.args.relay c.loop-list.list c.loop-list.needed.items (omega (arith, many, end, within)) c.loop-list.invariant
