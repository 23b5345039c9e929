use Rattle.std.proofs.Common.{◌≡◌, ◌≤◌, ◌+◌, ◌∷◌, length, sum_by, take, drop, rules, arith, ap, sym, ◌∙◌}
use Rattle.std.proofs.lemmas.List.{length-take, length-drop}
use Rattle.sy_rules.specs.internal.FlowWalk as spec
use Rattle.sy_rules.proofs.lemmas.lists.FlowTables.{flow_finish, flow_if, flow_more, flow_over, list_is_body}
use Rattle.sy_rules.proofs.lemmas.lists.TableLaws.{falls_by_depth, first_and_rest, no_rest, not_true, table_length}
use Rattle.sy_rules.proofs.lists.flow.Judge.+flow.Goals as goal

pub list-statements-requires : goal.list-statements-requires
list-statements-requires t c =
    let short = table_length c.args.self.tables.now c.args.list in
    let long : length c.table_at.result.now ≤ sum_by length c.args.self.tables.now = rw c.table_at.ensures short in
    let falls = falls_by_depth c.args.depth (sum_by length c.args.self.tables.now) (length c.table_at.result.now) c.if-depth-eq0.false long in
    search (rules, falls)

pub list-returns : goal.list-returns
list-returns t c =
    c.statements.ensures
    ∙ list_is_body c.args.self.class c.args.self.tests.now c.args.self.tables.now c.args.depth c.args.list c.args.base c.table_at.result.now c.if-depth-eq0.false c.table_at.ensures

pub statement-block-requires : goal.statement-block-requires
statement-block-requires t c =
    let td = length-take c.in-If.done c.args.after.now in
    let dd = length-drop c.in-If.done c.args.after.now in
    let to = length-take c.in-If.otherwise (drop c.in-If.done c.args.after.now) in
    let first : length c.split.result.0.now ≡ length (take c.in-If.done c.args.after.now) = ap length c.split.ensures.front in
    let second : length c.split-in-If.result.0.now ≡ length (take c.in-If.otherwise (drop c.in-If.done c.args.after.now)) =
    ap length (c.split-in-If.ensures.front ∙ ap (take c.in-If.otherwise) c.split.ensures.behind) in
    let short : length c.split.result.0.now + length c.split-in-If.result.0.now ≤ length c.args.after.now = omega arith in
    search (rules, short)

pub statement-returns-in-If-clause-reached : goal.statement-returns-in-If-clause-reached
statement-returns-in-If-clause-reached t c =
    ap (λ s. spec.flow_of_statements c.args.self.class c.args.self.tests.now c.args.self.tables.now c.args.depth (s ∷ c.args.after.now) c.args.base) c.in-If.is
    ∙ flow_if c.args.self.class c.args.self.tests.now c.args.self.tables.now c.args.depth c.in-If.test c.in-If.done c.in-If.otherwise c.args.after.now c.split.result.0.now c.split-in-If.result.0.now c.split-in-If.result.1.now c.args.base
    c.verdict.result c.block.result c.verdict.ensures c.split.ensures.front (c.split-in-If.ensures.front ∙ ap (take c.in-If.otherwise) c.split.ensures.behind) (c.split-in-If.ensures.behind ∙ ap (drop c.in-If.otherwise) c.split.ensures.behind)
    c.block.ensures

pub statements-returns-then-not-flow-2 : goal.statements-returns-then-not-flow-2
statements-returns-then-not-flow-2 t c =
    let walked = spec.flow_of_statements c.args.self.class c.args.self.tests.now c.args.self.tables.now c.args.depth in
    let w = walked c.statement.result.1.now c.args.base in
    let whole = walked c.args.statements.now c.args.base in
    flow_over c.flow_followed_by-flow.result w whole (not_true _ c.if-not-flow.true) (not_true _ c.if-not-flow-2.true)
    (flow_more c.loop-rest.flow c.statement.result.0 c.flow_followed_by-flow.result w (walked c.loop-rest.rest.now c.args.base) whole c.flow_followed_by-flow.ensures (sym (ap (λ r. walked r c.args.base) (first_and_rest _ c.loop-rest.rest.now _ c.in-len1-up.len_at_least)) ∙ c.statement.ensures.reached) c.loop-rest.invariant.same)

pub statements-loop-rest-preserved-in-Some : goal.statements-loop-rest-preserved-in-Some
statements-loop-rest-preserved-in-Some t c =
    let walked = spec.flow_of_statements c.args.self.class c.args.self.tests.now c.args.self.tables.now c.args.depth in
    let same = ap (spec.flow_followed_by c.loop-rest.flow) (sym (c.in-Some.ensures.same c.args.depth c.args.base)
    ∙ ap (λ r. walked r c.args.base) (first_and_rest _ c.loop-rest.rest.now _ c.in-len1-up.len_at_least)) ∙ c.loop-rest.invariant.same in
    search (rules, same)

pub statements-loop-rest-preserved : goal.statements-loop-rest-preserved
statements-loop-rest-preserved t c =
    let walked = spec.flow_of_statements c.args.self.class c.args.self.tests.now c.args.self.tables.now c.args.depth in
    let w = walked c.statement.result.1.now c.args.base in
    let whole = walked c.args.statements.now c.args.base in
    let same = flow_more c.loop-rest.flow c.statement.result.0 c.flow_followed_by-flow.result w (walked c.loop-rest.rest.now c.args.base) whole c.flow_followed_by-flow.ensures (sym (ap (λ r. walked r c.args.base) (first_and_rest _ c.loop-rest.rest.now _ c.in-len1-up.len_at_least)) ∙ c.statement.ensures.reached) c.loop-rest.invariant.same in
    search (rules, same)

pub statements-returns : goal.statements-returns
statements-returns t c =
    let walked = spec.flow_of_statements c.args.self.class c.args.self.tests.now c.args.self.tables.now c.args.depth in
    flow_finish c.loop-rest.flow (walked c.args.statements.now c.args.base)
    (ap (λ r. spec.flow_followed_by c.loop-rest.flow (walked r c.args.base)) (sym (no_rest _ c.loop-rest.rest.now c.in_default.len_below)) ∙ c.loop-rest.invariant.same)
