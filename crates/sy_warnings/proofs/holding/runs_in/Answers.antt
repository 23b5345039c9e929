use Rattle.std.proofs.Common.{ℕ, ◌≤◌, arith}
use Rattle.sy_rules.specs.declared.lists.occurrence.Occurrence.TheVariants as occurrence
use Rattle.sy_warnings.specs.Following.{IsExecuted}
use Rattle.sy_warnings.proofs.Execution.{no_so, not_first, not_more, refuted, yes_so}
use Rattle.sy_warnings.proofs.holding.runs_in.Goals as goal

pub loop-number-init : goal.loop-number-init
loop-number-init c = not_first (λ (number : ℕ). IsExecuted c.args.site.now c.args.by c.args.at number (occurrence.Run c.args.action))

pub loop-number-preserved : goal.loop-number-preserved
loop-number-preserved c =
    not_more (λ (number : ℕ). IsExecuted c.args.site.now c.args.by c.args.at number (occurrence.Run c.args.action)) c.loop-number.number c.loop-number.invariant
    (refuted c.runs_at.result ((λ (number : ℕ). IsExecuted c.args.site.now c.args.by c.args.at number (occurrence.Run c.args.action)) c.loop-number.number) c.runs_at.ensures c.if-runs_at.false)

pub returns-then-runs_at : goal.returns-then-runs_at
returns-then-runs_at c = yes_so ((c.loop-number.number, c.runs_at.ensures.0 c.if-runs_at.true))

pub returns : goal.returns
returns c = no_so (λ it. (let low = c.occurrences_of-number-end.ensures.all it.0 (occurrence.Run c.args.action) it.1.does.found in
    let end = c.loop-number-test.false in
    c.loop-number.invariant it.0 (omega (arith, low, end)) it.1))
