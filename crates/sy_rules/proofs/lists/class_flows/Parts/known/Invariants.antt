use Rattle.sy_rules.specs.internal.FlowWalk.{AreKnownRows}
use Rattle.sy_rules.proofs.lists.class_flows.Parts.known.Given as goal

abbrev pub invariant-loop-list : goal.invariant-loop-list
invariant-loop-list l = AreKnownRows l.self.tests.now l.self.tables.now l.classes l.known.items
