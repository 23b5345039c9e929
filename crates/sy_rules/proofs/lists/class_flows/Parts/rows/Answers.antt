use Rattle.sy_rules.proofs.lemmas.lists.FlowRows.{rows_pushed}
use Rattle.sy_rules.proofs.lists.class_flows.Parts.rows.Goals as goal

pub loop-list-preserved : goal.loop-list-preserved
loop-list-preserved c =
    let pushed = rows_pushed c.args.self.tests.now c.args.self.tables.now c.args.classes.now c.loop-list.list c.loop-list.rows.items c.push.new.self.items c.in_ok-row.field-0
    c.loop-list.invariant.size c.loop-list.invariant.are c.in_ok-row.ensures c.in_ok-push.ensures.items in
    record { size = pushed.0; are = pushed.1 }
