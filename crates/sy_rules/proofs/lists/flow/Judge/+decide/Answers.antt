use Rattle.std.proofs.Common.{◌∷◌, ◌≤◌, ◌-◌, length, sum_by, take, drop, rules, arith, ap, sym, ◌∙◌, subst}
use Rattle.std.proofs.lemmas.List.{length-take, length-drop}
use Rattle.sy_rules.specs.internal.ClassFlows.{IsMet, met_statements}
use Rattle.sy_rules.specs.internal.FlowWalk.{judged}
use Rattle.sy_rules.proofs.lemmas.lists.Between.{list_decided}
use Rattle.sy_rules.proofs.lemmas.lists.Decided.{by_statements, decided_if, so_far_done, so_far_more}
use Rattle.sy_rules.proofs.lemmas.lists.TableLaws.{falls_by_depth, first_and_rest, no_rest, table_length}
use Rattle.sy_rules.proofs.lists.flow.Judge.+decide.Goals as goal

pub decided-returns-in-Some-decided_block-clause-reached : goal.decided-returns-in-Some-decided_block-clause-reached
decided-returns-in-Some-decided_block-clause-reached t c = λ met are.
    let judge = judged c.args.self.class c.args.self.tests.now in
    let found = c.in-Some-decided_block in
    ap (λ s. met_statements met c.args.self.tables.now c.args.depth (s ∷ c.args.after.now) c.args.base) c.in-If.is
    ∙ decided_if judge c.args.self.tables.now c.args.depth c.in-If.test c.in-If.done c.in-If.otherwise c.args.after.now c.split.result.0.now c.split-in-If.result.0.now c.split-in-If.result.1.now c.args.base found.reached
    c.split.ensures.front (c.split-in-If.ensures.front ∙ ap (take c.in-If.otherwise) c.split.ensures.behind) (c.split-in-If.ensures.behind ∙ ap (drop c.in-If.otherwise) c.split.ensures.behind)
    (λ others is_met all is. found.ensures others is_met all (subst (λ v. IsMet v is_met) (sym c.verdict-verdict.ensures) is)) met are

pub decided_list-decided_statements-requires : goal.decided_list-decided_statements-requires
decided_list-decided_statements-requires t c =
    let short = table_length c.args.self.tables.now c.args.list in
    let long : length c.table_at.result.now ≤ sum_by length c.args.self.tables.now = rw c.table_at.ensures short in
    let falls = falls_by_depth c.args.depth (sum_by length c.args.self.tables.now) (length c.table_at.result.now) c.if-depth-eq0.false long in
    search (rules, falls)

pub decided_list-returns-in-Some : goal.decided_list-returns-in-Some
decided_list-returns-in-Some t c =
    list_decided c.args.self.class c.args.self.tests.now c.args.self.tables.now c.args.depth c.args.list c.args.base c.in-Some.flow c.decided_flow.result c.in-Some.ensures c.decided_flow.ensures

pub decided_list-returns : goal.decided_list-returns
decided_list-returns t c =
    by_statements (judged c.args.self.class c.args.self.tests.now) c.args.self.tables.now c.args.depth c.args.list c.args.base c.table_at.result.now c.decided_statements.result
    c.if-depth-eq0.false c.table_at.ensures c.decided_statements.ensures

pub decided_statements-loop-rest-preserved : goal.decided_statements-loop-rest-preserved
decided_statements-loop-rest-preserved t c =
    let same = so_far_more (judged c.args.self.class c.args.self.tests.now) c.args.self.tables.now c.args.depth c.args.statements.now c.args.base c.loop-rest.reached c.in-Some.next c.followed_by-reached.result
    c.loop-rest.rest.now _ c.in-Some.later.now (first_and_rest _ c.loop-rest.rest.now _ c.in-len1-up.len_at_least) c.followed_by-reached.ensures c.loop-rest.invariant.same c.in-Some.ensures.reached in
    let rest = c.loop-rest.rest.now in
    let left = length-take (length rest - 1) (drop 1 rest) in
    let one = length-drop 1 rest in
    record { same = same; shorter = omega (arith, left, one, c.in-Some.ensures.shorter, c.loop-rest.invariant.shorter) }

pub decided_statements-returns : goal.decided_statements-returns
decided_statements-returns t c =
    so_far_done (judged c.args.self.class c.args.self.tests.now) c.args.self.tables.now c.args.depth c.args.statements.now c.args.base c.loop-rest.reached c.loop-rest.rest.now
    c.loop-rest.invariant.same (no_rest _ c.loop-rest.rest.now c.in_default.len_below)
