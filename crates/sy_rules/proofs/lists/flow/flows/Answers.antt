use Rattle.std.proofs.Common.{sym, subst}
use Rattle.sy_rules.specs.declared.lists.flow.Flow.{Flow}
use Rattle.sy_rules.specs.lists.Lines.{body_of}
use Rattle.sy_rules.specs.lists.Sets.{Bits}
use Rattle.sy_rules.specs.internal.Tables.{lines_of_tables}
use Rattle.sy_rules.specs.lists.Work.{May, Must}
use Rattle.sy_rules.proofs.lemmas.lists.FlowRuns.{may_set, must_set}
use Rattle.sy_rules.proofs.lists.flow.flows.Goals as goal

pub returns-clause-may : goal.returns-clause-may
returns-clause-may c =
    subst (λ (f : Flow). Bits (May (body_of (lines_of_tables c.args.tests.now c.args.tables.now) c.args.list) c.args.class) f.may.set) (sym c.flow-flow.ensures)
    (may_set c.args.tests.now c.args.tables.now c.args.class c.args.list c.requires)

pub returns-clause-must : goal.returns-clause-must
returns-clause-must c =
    subst (λ (f : Flow). Bits (Must (body_of (lines_of_tables c.args.tests.now c.args.tables.now) c.args.list) c.args.class) f.must.set) (sym c.flow-flow.ensures)
    (must_set c.args.tests.now c.args.tables.now c.args.class c.args.list c.requires)
