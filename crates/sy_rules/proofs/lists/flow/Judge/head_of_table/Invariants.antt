use Rattle.std.proofs.Common.{◌≤◌, length}
use Rattle.sy_rules.specs.internal.ClassFlows.{IsTail, executes}
use Rattle.sy_rules.specs.internal.FlowWalk.{judged}
use Rattle.sy_rules.proofs.lemmas.lists.Decided.{SoFar}
use Rattle.sy_rules.proofs.lists.flow.Judge.head_of_table.Given as goal

abbrev pub invariant-loop-rest : goal.invariant-loop-rest
invariant-loop-rest l = record {
  same : SoFar (judged l.self.class l.self.tests.now) l.self.tables.now 17 l.table 0 (executes l.executed) l.rest;
  tail : IsTail l.rest l.table;
  shorter : length l.rest ≤ length l.table;
}

abbrev pub decreases-loop-rest : goal.decreases-loop-rest
decreases-loop-rest l = length l.rest
