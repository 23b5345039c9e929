use Rattle.std.proofs.Common.{ℕ, ◌≤◌, arith}
use Rattle.sy_rules.specs.declared.lists.occurrence.Occurrence.TheVariants as occurrence
use Rattle.sy_flows.proofs.Used.{list_of_found}
use Rattle.sy_warnings.specs.declared.following.Following.TheVariants as following
use Rattle.sy_warnings.specs.internal.Holding.{RunsIn}
use Rattle.sy_warnings.proofs.Execution.{no_so, not_first, not_more, refuted, yes_so}
use Rattle.sy_warnings.proofs.holding.is_needed.Goals as goal

pub loop-list-init : goal.loop-list-init
loop-list-init c = not_first (λ (list : ℕ). RunsIn c.args.site.now following.Firm (record { relay = c.args.relay; list = list }) c.args.action)

pub loop-list-preserved : goal.loop-list-preserved
loop-list-preserved c =
    not_more (λ (list : ℕ). RunsIn c.args.site.now following.Firm (record { relay = c.args.relay; list = list }) c.args.action) c.loop-list.list c.loop-list.invariant
    (refuted c.runs_in.result ((λ (list : ℕ). RunsIn c.args.site.now following.Firm (record { relay = c.args.relay; list = list }) c.args.action) c.loop-list.list) c.runs_in.ensures c.if-runs_in.false)

pub returns-then-runs_in : goal.returns-then-runs_in
returns-then-runs_in c = yes_so ((let runs = c.runs_in.ensures.0 c.if-runs_in.true in record { list = c.loop-list.list; number = runs.0; needed = runs.1 }))

pub returns : goal.returns
returns c = no_so (λ it. (let low = list_of_found c.args.site.now c.args.relay it.list it.number (occurrence.Run c.args.action) it.needed.does.found in
    let end = c.loop-list-test.false in
    let many = c.lists_of-list-end.ensures in
    c.loop-list.invariant it.list (omega (arith, low, end, many)) (it.number, it.needed)))
