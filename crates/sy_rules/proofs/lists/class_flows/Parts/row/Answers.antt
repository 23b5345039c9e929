use Rattle.std.proofs.Common.{Some, ap, sym, ◌∙◌}
use Rattle.std.proofs.lemmas.Option.{slice_get-get_or}
use Rattle.sy_rules.proofs.lemmas.lists.FlowRows.{row_pushed}
use Rattle.sy_rules.proofs.lemmas.lists.Settled.{known_by_rows}
use Rattle.sy_rules.proofs.lists.class_flows.Parts.row.Goals as goal

pub class_flow-requires-clause-known : goal.class_flow-requires-clause-known
class_flow-requires-clause-known c =
    known_by_rows c.args.self.tests.now c.args.self.tables.now c.requires.tables c.args.classes.now c.args.known.now c.loop-column.column c.index-classes-column.result c.requires.known
    (slice_get-get_or c.args.classes.now c.loop-column.column c.index-classes-column.result c.loop-column-test.true ∙ ap Some (sym c.index-classes-column.is))

pub loop-column-preserved : goal.loop-column-preserved
loop-column-preserved c =
    let pushed = row_pushed c.args.self.tests.now c.args.self.tables.now c.args.list c.loop-column.column c.args.classes.now c.index-classes-column.result c.loop-column.row c.push.new.self c.class_flow.result
    c.loop-column.invariant.size (slice_get-get_or c.args.classes.now c.loop-column.column c.index-classes-column.result c.loop-column-test.true ∙ ap Some (sym c.index-classes-column.is)) c.class_flow.ensures c.loop-column.invariant.is c.in_ok-push.ensures.ok in
    record { size = pushed.0; is = pushed.1 }
