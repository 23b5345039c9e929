use Rattle.std.proofs.Common.{ℕ, ◌≤◌, arith}
use Rattle.sy_rules.specs.declared.lists.occurrence.Occurrence.TheVariants as occurrence
use Rattle.sy_warnings.proofs.Arriving.{number_below}
use Rattle.sy_warnings.specs.internal.Holding.{StandsAt}
use Rattle.sy_warnings.proofs.Execution.{no_so, not_first, not_more, refuted, yes_so}
use Rattle.sy_warnings.proofs.bottleneck.stands_before.Goals as goal

pub loop-number-init : goal.loop-number-init
loop-number-init c = not_first (λ (number : ℕ). StandsAt c.args.site.now c.args.class c.args.at c.args.action number)

pub loop-number-preserved : goal.loop-number-preserved
loop-number-preserved c =
    not_more (λ (number : ℕ). StandsAt c.args.site.now c.args.class c.args.at c.args.action number) c.loop-number.number c.loop-number.invariant
    (refuted c.stands_at.result ((λ (number : ℕ). StandsAt c.args.site.now c.args.class c.args.at c.args.action number) c.loop-number.number) c.stands_at.ensures c.if-stands_at.false)

pub returns-then-stands_at : goal.returns-then-stands_at
returns-then-stands_at c = yes_so ((c.loop-number.number, c.stands_at.ensures.0 c.if-stands_at.true))

pub returns : goal.returns
returns c = no_so (λ it. (let low = number_below c.args.site.now c.is_lawful.ensures c.args.at.relay c.args.at.list it.0 (occurrence.Run c.args.action) it.1.runs.found in
    let end = c.loop-number-test.false in
    c.loop-number.invariant it.0 (omega (arith, low, end)) it.1))
