use Rattle.std.proofs.Common.{sym, subst, ◌∙◌}
use Rattle.std.specs.Prelude.{IfSome}
use Rattle.sy_rules.specs.internal.ClassFlows.{IsFlow}
use Rattle.sy_rules.specs.internal.FlowWalk.{judged}
use Rattle.sy_rules.proofs.lemmas.lists.FlowRows.{due_between}
use Rattle.sy_rules.proofs.lists.lookup.due_of_list.Goals as goal

pub returns-then-flow : goal.returns-then-flow
returns-then-flow c =
    let tests = c.args.tests.now in
    let tables = c.args.tables.now in
    let class = c.class.result in
    let is = subst (λ o. IfSome o (IsFlow (judged class tests) tables c.args.list)) (sym c.at.ensures ∙ c.in-Some.is) (c.requires.kept c.args.list class) in
    due_between tests tables c.args.list c.requires.tables c.args.message.now class c.in-Some.flow c.class.ensures is c.if-flow.true
