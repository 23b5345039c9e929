use Rattle.std.proofs.Common.{◌≡◌, length, length-append, ap, ◌∙◌, arith}
use Rattle.std.proofs.lemmas.Result.{on_ok_weaker}
use Rattle.sy_rules.specs.parts.Plans.{names_of, place_of}
use Rattle.sy_rules.specs.internal.TextTables.{call_statement, front_of_otherwise}
use Rattle.sy_rules.specs.lists.Texts.{front_of_stmt}
use Rattle.sy_rules.specs.internal.Texts.{front_of_block}
use Rattle.sy_rules.proofs.lemmas.lists.Fronts.{action_is, call_is, stop_is, if_is}
use Rattle.sy_rules.proofs.lemmas.lists.Pushes.{action_push, call_push, stop_push, if_push, same_front, longer, set_by, all_three}
use Rattle.sy_rules.proofs.lists.build.statements.+statements.Goals as goal

pub push_stmt-close_if-requires-clause-first : goal.push_stmt-close_if-requires-clause-first
push_stmt-close_if-requires-clause-first t c =
    let opened = c.in_ok-opened-in-If in
    let p = longer _ _ _ _ _ _ _ c.in_ok-push_block-in-If.ensures in
    omega (arith, p, opened.ensures.at, ap length opened.ensures.table, length-append c.args.table.now.items)

pub push_stmt-close_if-requires-clause-second : goal.push_stmt-close_if-requires-clause-second
push_stmt-close_if-requires-clause-second t c =
    let p = longer _ _ _ _ _ _ _ c.in_ok-push_otherwise-in-If.ensures in
    omega (arith, p)

pub push_stmt-returns-in-Action : goal.push_stmt-returns-in-Action
push_stmt-returns-in-Action t c =
    let e = ap front_of_stmt c.in-Action.is ∙ action_is _ _ in
    all_three c.push_action.result (λ table actions tests. same_front _ _ _ _ _ _ _ _ e (action_push _ _ _ _ _ _ _ table actions tests))
    c.push_action.ensures.table c.push_action.ensures.actions c.push_action.ensures.tests

pub push_stmt-returns-in-Call : goal.push_stmt-returns-in-Call
push_stmt-returns-in-Call t c =
    let rulesets = c.args.scope.now.rulesets.now in
    let e = ap front_of_stmt c.in-Call.is ∙ call_is _ in
    let found = ap (λ name. call_statement rulesets (place_of name (names_of rulesets))) c.as_slice.ensures in
    on_ok_weaker c.push_call.result (λ table. same_front _ _ _ _ _ _ _ _ e (call_push _ _ _ _ _ _ _ found table)) c.push_call.ensures

pub push_stmt-returns-in_ok-push-in-Stop : goal.push_stmt-returns-in_ok-push-in-Stop
push_stmt-returns-in_ok-push-in-Stop t c =
    let e = ap front_of_stmt c.in-Stop.is ∙ stop_is _ in
    same_front _ _ _ _ _ _ _ _ e (stop_push _ _ _ _ _ c.in_ok-push-in-Stop.ensures.items)

pub push_stmt-returns-in_ok-push_otherwise-in-If : goal.push_stmt-returns-in_ok-push_otherwise-in-If
push_stmt-returns-in_ok-push_otherwise-in-If t c =
    let h = c.in-If in
    let opened = c.in_ok-opened-in-If in
    let old = c.args.table.now.items in
    let first = c.push_block.new.table.items in
    let second = c.push_otherwise.new.table.items in
    let rulesets = c.args.scope.now.rulesets.now in
    let statements = c.args.scope.now.actions.now in
    let e = ap front_of_stmt h.is ∙ if_is h.field-0 h.done h.otherwise in
    let middle : c.len-middle.result ≡ length first = omega (arith, c.len-middle.ensures) in
    let sizes = set_by second opened.opened.at (length old) opened.opened.test c.args.counts.now.tests c.len-middle.result (length first) (length second) opened.ensures.at opened.ensures.test middle in
    on_ok_weaker c.close_if.result
    (λ table. same_front rulesets statements _ _ c.args.counts.now c.push_otherwise.new.counts old c.close_if.new.table.items e
    (if_push rulesets statements h.field-0 (front_of_block h.done) (front_of_otherwise h.otherwise) c.args.counts.now c.open_if.new.counts c.push_block.new.counts c.push_otherwise.new.counts
    old c.open_if.new.table.items first second c.close_if.new.table.items
    opened.ensures.actions opened.ensures.tests opened.ensures.table c.in_ok-push_block-in-If.ensures c.in_ok-push_otherwise-in-If.ensures (table ∙ sizes)))
    c.close_if.ensures
