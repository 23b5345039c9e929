use Rattle.std.proofs.Common.{◌≤◌, arith}
use Rattle.sy_warnings.specs.internal.Holding.{NeedsAt}
use Rattle.sy_warnings.proofs.Execution.{no_so, not_first, not_more, refuted, yes_so}
use Rattle.sy_warnings.proofs.holding.has_needed.Goals as goal

pub loop-number-init : goal.loop-number-init
loop-number-init c = not_first (NeedsAt c.args.site.now c.args.at)

pub loop-number-preserved : goal.loop-number-preserved
loop-number-preserved c =
    not_more (NeedsAt c.args.site.now c.args.at) c.loop-number.number c.loop-number.invariant
    (refuted c.is_needed_at.result ((NeedsAt c.args.site.now c.args.at) c.loop-number.number) c.is_needed_at.ensures c.if-is_needed_at.false)

pub returns-then-is_needed_at : goal.returns-then-is_needed_at
returns-then-is_needed_at c = yes_so ((c.loop-number.number, c.is_needed_at.ensures.0 c.if-is_needed_at.true))

pub returns : goal.returns
returns c = no_so (λ it. (let low = c.occurrences_of-number-end.ensures.all it.0 it.1.0 it.1.1.does.found in
    let end = c.loop-number-test.false in
    c.loop-number.invariant it.0 (omega (arith, low, end)) it.1))
