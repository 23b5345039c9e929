use Rattle.std.proofs.Common.{◌≡◌, length}
use Rattle.sy_rules.specs.internal.ClassFlows.{AreRows}
use Rattle.sy_rules.proofs.lists.class_flows.Parts.rows.Given as goal

abbrev pub invariant-loop-list : goal.invariant-loop-list
invariant-loop-list l = record {
  size : length l.rows.items ≡ l.list;
  are : AreRows l.self.tests.now l.self.tables.now l.classes l.rows.items;
}
