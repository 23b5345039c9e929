use Rattle.std.proofs.Common.{◌≤◌, arith}
use Rattle.sy_flows.proofs.Used.{list_of_found}
use Rattle.sy_warnings.specs.internal.Holding.{SharesWith}
use Rattle.sy_warnings.proofs.Execution.{no_so, not_first, not_more, refuted, yes_so}
use Rattle.sy_warnings.proofs.holding.shares.Goals as goal

pub loop-other-init : goal.loop-other-init
loop-other-init c = not_first (SharesWith c.args.site.now c.args.relay c.args.list)

pub loop-other-preserved : goal.loop-other-preserved
loop-other-preserved c =
    not_more (SharesWith c.args.site.now c.args.relay c.args.list) c.loop-other.other c.loop-other.invariant
    (refuted c.shares_with.result ((SharesWith c.args.site.now c.args.relay c.args.list) c.loop-other.other) c.shares_with.ensures c.if-shares_with.false)

pub returns-then-shares_with : goal.returns-then-shares_with
returns-then-shares_with c = yes_so ((let it = c.shares_with.ensures.0 c.if-shares_with.true in
    record { other = c.loop-other.other; number = it.needs.0; is = it.needs.1.0; needed = it.needs.1.1; same = it.same }))

pub returns : goal.returns
returns c = no_so (λ it. (let low = list_of_found c.args.site.now c.args.relay it.other it.number it.is it.needed.does.found in
    let end = c.loop-other-test.false in
    let many = c.lists_of-other-end.ensures in
    c.loop-other.invariant it.other (omega (arith, low, end, many)) (record { needs = (it.number, (it.is, it.needed)); same = it.same })))
