use Rattle.std.proofs.Common.{Some, ap, sym, ◌∙◌}
use Rattle.std.proofs.lemmas.Option.{slice_get-get_or}
use Rattle.sy_rules.proofs.lemmas.lists.KnownRows.{known_row_more}
use Rattle.sy_rules.proofs.lemmas.lists.Settled.{known_by_rows}
use Rattle.sy_rules.proofs.lists.called.Callers.row.Goals as goal

pub flow-requires-clause-known : goal.flow-requires-clause-known
flow-requires-clause-known c =
    known_by_rows c.args.self.tests.now c.args.self.tables.now c.requires.tables c.args.self.classes.now c.args.known.now c.loop-column.column c.class-item.result c.requires.known
    (slice_get-get_or c.args.self.classes.now c.loop-column.column c.class-item.result c.loop-column-test.true ∙ ap Some (sym c.class-item.is))

pub loop-column-preserved : goal.loop-column-preserved
loop-column-preserved c =
    let more = known_row_more c.args.self.tests.now c.args.self.tables.now c.args.self.classes.now c.args.list c.loop-column.column c.class-item.result c.loop-column.row c.push.new.self c.flow.result
    c.loop-column.invariant.size (slice_get-get_or c.args.self.classes.now c.loop-column.column c.class-item.result c.loop-column-test.true ∙ ap Some (sym c.class-item.is))
    c.flow.ensures c.loop-column.invariant.is c.in_ok-push.ensures.ok in
    record { size = more.0; is = more.1 }
