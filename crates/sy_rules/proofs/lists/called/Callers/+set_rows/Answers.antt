use Rattle.sy_rules.proofs.lists.called.Callers.+set_rows.Goals as goal

pub set_rows-returns : goal.set_rows-returns
set_rows-returns t c =
    c.set_row.ensures c.args.self.tests.now c.args.self.tables.now c.args.self.classes.now c.in_ok-set_called.ensures c.in_ok-row.ensures
