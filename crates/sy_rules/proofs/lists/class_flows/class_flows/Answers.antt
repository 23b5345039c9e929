use Rattle.std.proofs.Common.{subst}
use Rattle.sy_rules.specs.internal.ClassFlows.{AreRows}
use Rattle.sy_rules.proofs.lemmas.lists.FlowRows.{flows_by_rows}
use Rattle.sy_rules.proofs.lists.class_flows.class_flows.Goals as goal

pub returns : goal.returns
returns c =
    let tests = c.args.parts.tests.now in
    let tables = c.args.parts.tables.now in
    flows_by_rows tests tables (record { columns = c.in_ok-columns.columns; rows = c.in_ok-rows.rows }) c.in_ok-columns.ensures
    (subst (λ classes. AreRows tests tables classes c.in_ok-rows.rows.items) c.as_slice-classes.ensures.value c.in_ok-rows.ensures)
