use Rattle.std.proofs.Common.{ℕ, ◌≤◌, arith}
use Rattle.sy_warnings.proofs.Arriving.{number_below}
use Rattle.sy_warnings.specs.internal.Holding.{NeedsLater}
use Rattle.sy_warnings.proofs.Execution.{no_so, not_first, not_more, refuted, yes_so}
use Rattle.sy_warnings.proofs.bottleneck.needs_behind.Goals as goal

pub loop-later-init : goal.loop-later-init
loop-later-init c = not_first (λ (later : ℕ). NeedsLater c.args.site.now c.args.class c.args.at c.args.number later)

pub loop-later-preserved : goal.loop-later-preserved
loop-later-preserved c =
    not_more (λ (later : ℕ). NeedsLater c.args.site.now c.args.class c.args.at c.args.number later) c.loop-later.later c.loop-later.invariant
    (refuted c.needs_later.result ((λ (later : ℕ). NeedsLater c.args.site.now c.args.class c.args.at c.args.number later) c.loop-later.later) c.needs_later.ensures c.if-needs_later.false)

pub returns-then-needs_later : goal.returns-then-needs_later
returns-then-needs_later c = yes_so ((c.loop-later.later, c.needs_later.ensures.0 c.if-needs_later.true))

pub returns : goal.returns
returns c = no_so (λ it. (let low = number_below c.args.site.now c.is_lawful.ensures c.args.at.relay c.args.at.list it.0 it.1.needed.0 it.1.needed.1.found in
    let end = c.loop-later-test.false in
    c.loop-later.invariant it.0 (omega (arith, low, end)) it.1))
