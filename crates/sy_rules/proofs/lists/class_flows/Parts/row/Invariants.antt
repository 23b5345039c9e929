use Rattle.std.proofs.Common.{◌≡◌, length}
use Rattle.sy_rules.specs.internal.ClassFlows.{IsRow}
use Rattle.sy_rules.proofs.lists.class_flows.Parts.row.Given as goal

abbrev pub invariant-loop-column : goal.invariant-loop-column
invariant-loop-column l = record {
  size : length l.row ≡ l.column;
  is : IsRow l.self.tests.now l.self.tables.now l.list l.classes l.row;
}
