use Rattle.std.proofs.Common.{List}
use Rattle.sy_wire.specs.declared.class.Class.{Class}
use Rattle.sy_select.specs.declared.condition.Test.{Test}
use Rattle.sy_select.specs.Truth.{Formula}
use Rattle.sy_rules.specs.declared.lists.statement.Statement.{Statement}
use Rattle.sy_rules.specs.internal.FlowWalk.{AreKnownRows}
use Rattle.sy_rules.proofs.lists.called.no_rows.Given as goal

abbrev pub invariant-loop-table : goal.invariant-loop-table
invariant-loop-table l = (tests : List (Formula Test)) (lists : List (List Statement)) (classes : List Class) → AreKnownRows tests lists classes l.rows.items
