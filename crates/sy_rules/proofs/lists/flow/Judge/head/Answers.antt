use Rattle.std.proofs.Common.{subst}
use Rattle.sy_rules.specs.internal.ClassFlows.{IsHeadAt}
use Rattle.sy_rules.specs.internal.FlowWalk.{judged}
use Rattle.sy_rules.proofs.lemmas.lists.Settled.{head_as_deep}
use Rattle.sy_rules.proofs.lists.flow.Judge.head.Goals as goal

pub returns : goal.returns
returns c =
    let judge = judged c.args.self.class c.args.self.tests.now in
    head_as_deep c.args.self.tests.now c.args.self.tables.now c.requires.tables judge c.args.list c.head_of_table.result
    (subst (λ table. IsHeadAt 17 judge c.args.self.tables.now table c.head_of_table.result) c.table_at.ensures c.head_of_table.ensures)
