use Rattle.std.proofs.Common.{◌+◌, ◌*◌}
use Rattle.sy_rules.specs.internal.FlowWalk.{AreKnownRows}
use Rattle.sy_rules.proofs.lists.called.Callers.+set_rows.Given as goal

abbrev pub decreases-set_rows : goal.decreases-set_rows
decreases-set_rows l = 2 * l.depth

abbrev pub decreases-set_called : goal.decreases-set_called
decreases-set_called l = 2 * l.depth + 1

abbrev pub invariant-set_called-loop-statement : goal.invariant-set_called-loop-statement
invariant-set_called-loop-statement l = AreKnownRows l.self.tests.now l.self.tables.now l.self.classes.now l.known.items
