use Rattle.std.proofs.Common.{◌∷◌, ◌∙◌, ap, sym}
use Rattle.sy_rules.specs.internal.FlowWalk as spec
use Rattle.sy_rules.proofs.lemmas.lists.FlowTables.{flow_passed}
use Rattle.sy_rules.proofs.lists.flow.Judge.passed.Goals as goal

pub returns-in-No-clause-same : goal.returns-in-No-clause-same
returns-in-No-clause-same c = λ depth base.
    ap (λ s. spec.flow_of_statements c.args.self.class c.args.self.tests.now c.args.self.tables.now depth (s ∷ c.args.after.now) base)
    c.in-If.is
    ∙ flow_passed c.args.self.class c.args.self.tests.now c.args.self.tables.now depth c.in-If.test
    c.in-If.done c.in-If.otherwise c.args.after.now c.split.result.1.now base
    (c.if-otherwise-ne0.false) (sym c.in-No.is ∙ c.verdict.ensures) c.split.ensures.behind
