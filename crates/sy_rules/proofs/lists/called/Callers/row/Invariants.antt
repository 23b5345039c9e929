use Rattle.std.proofs.Common.{◌≡◌, length}
use Rattle.sy_rules.specs.internal.FlowWalk.{IsKnownRow}
use Rattle.sy_rules.proofs.lists.called.Callers.row.Given as goal

abbrev pub invariant-loop-column : goal.invariant-loop-column
invariant-loop-column l = record {
  size : length l.row ≡ l.column;
  is : IsKnownRow l.self.tests.now l.self.tables.now l.self.classes.now l.list l.row;
}
