use Rattle.std.proofs.Common.{ℕ, ◌≤◌, arith}
use Rattle.sy_rules.specs.declared.lists.occurrence.Occurrence.TheVariants as occurrence
use Rattle.sy_flows.proofs.Used.{list_of_found}
use Rattle.sy_warnings.specs.Holding.{MayWait, NeedsAction}
use Rattle.sy_warnings.specs.internal.Holding.{SharesIn}
use Rattle.sy_warnings.proofs.Execution.{not_first, not_more, refuted}
use Rattle.sy_warnings.proofs.holding.shared_worker_in.Goals as goal

pub returns-then-not-may_wait-clause-none : goal.returns-then-not-may_wait-clause-none
returns-then-not-may_wait-clause-none c = λ it.
    refuted c.may_wait.result (MayWait c.args.site.now c.args.relay c.args.action) c.may_wait.ensures c.if-not-may_wait.true it.waits

pub returns-then-is_needed-clause-none : goal.returns-then-is_needed-clause-none
returns-then-is_needed-clause-none c = λ it. absurd (it.unneeded (c.is_needed.ensures.0 c.if-is_needed.true))

pub loop-list-init : goal.loop-list-init
loop-list-init c = not_first (λ (list : ℕ). SharesIn c.args.site.now c.args.relay list c.args.action)

pub loop-list-preserved : goal.loop-list-preserved
loop-list-preserved c =
    not_more (λ (list : ℕ). SharesIn c.args.site.now c.args.relay list c.args.action) c.loop-list.list c.loop-list.invariant
    (refuted c.shares_in.result (SharesIn c.args.site.now c.args.relay c.loop-list.list c.args.action) c.shares_in.ensures c.if-shares_in.false)

pub returns-then-shares_in-clause-some : goal.returns-then-shares_in-clause-some
returns-then-shares_in-clause-some c =
    let it = c.shares_in.ensures.0 c.if-shares_in.true in
    let low = c.loop-list-test.true in
    let many = c.lists_of-list-end.ensures in (
      omega (arith, low, many),
      record {
        waits = c.may_wait.ensures.0 c.if-not-may_wait.false;
        unneeded = refuted c.is_needed.result (NeedsAction c.args.site.now c.args.relay c.args.action) c.is_needed.ensures c.if-is_needed.false;
        list = c.loop-list.list;
        number = it.runs.0;
        executed = it.runs.1;
        shares = it.shares;
      },
    )

pub returns-clause-none : goal.returns-clause-none
returns-clause-none c = λ it.
    (let low = list_of_found c.args.site.now c.args.relay it.list it.number (occurrence.Run c.args.action) it.executed.does.found in
    let end = c.loop-list-test.false in
    let many = c.lists_of-list-end.ensures in
    c.loop-list.invariant it.list (omega (arith, low, end, many)) (record { runs = (it.number, it.executed); shares = it.shares }))
