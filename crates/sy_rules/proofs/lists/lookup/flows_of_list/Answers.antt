use Rattle.std.proofs.Common.{sym, subst, ◌∙◌}
use Rattle.std.specs.Prelude.{IfSome}
use Rattle.sy_rules.specs.internal.ClassFlows.{IsFlow}
use Rattle.sy_rules.specs.internal.FlowWalk.{judged}
use Rattle.sy_rules.proofs.lemmas.lists.FlowRows.{flow_sets}
use Rattle.sy_rules.proofs.lists.lookup.flows_of_list.Goals as goal

pub returns-in-Some-clause-may : goal.returns-in-Some-clause-may
returns-in-Some-clause-may c =
    let tests = c.args.tests.now in
    let tables = c.args.tables.now in
    let is = subst (λ o. IfSome o (IsFlow (judged c.args.class tests) tables c.args.list)) (sym c.at.ensures ∙ c.in-Some.is) (c.requires.kept c.args.list c.args.class) in
    (flow_sets tests tables c.args.list c.requires.tables c.args.class c.in-Some.flow is).0

pub returns-in-Some-clause-must : goal.returns-in-Some-clause-must
returns-in-Some-clause-must c =
    let tests = c.args.tests.now in
    let tables = c.args.tables.now in
    let is = subst (λ o. IfSome o (IsFlow (judged c.args.class tests) tables c.args.list)) (sym c.at.ensures ∙ c.in-Some.is) (c.requires.kept c.args.list c.args.class) in
    (flow_sets tests tables c.args.list c.requires.tables c.args.class c.in-Some.flow is).1
