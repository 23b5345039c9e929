use Rattle.std.proofs.Common.{◌+◌, ◌*◌, ◌≤◌, length, sum_by}
use Rattle.sy_rules.specs.internal.FlowWalk.{judged}
use Rattle.sy_rules.proofs.lemmas.lists.Decided.{SoFar}
use Rattle.sy_rules.proofs.lists.flow.Judge.+decide.Given as goal

-- Each call goes down by more than three times what any table is long.
abbrev pub decreases-decided_list : goal.decreases-decided_list
decreases-decided_list l = l.depth * (2 + 3 * sum_by length l.self.tables.now)

abbrev pub decreases-decided_statements : goal.decreases-decided_statements
decreases-decided_statements l = l.depth * (2 + 3 * sum_by length l.self.tables.now) + 1 + 3 * length l.statements.now

abbrev pub decreases-decided : goal.decreases-decided
decreases-decided l = l.depth * (2 + 3 * sum_by length l.self.tables.now) + 3 + 3 * length l.after.now

abbrev pub decreases-decided_block : goal.decreases-decided_block
decreases-decided_block l = l.depth * (2 + 3 * sum_by length l.self.tables.now) + 2 + 3 * length l.done.now + 3 * length l.otherwise.now

-- what was found so far, followed by what is left, is the whole
abbrev pub invariant-decided_statements-loop-rest : goal.invariant-decided_statements-loop-rest
invariant-decided_statements-loop-rest l = record {
  same : SoFar (judged l.self.class l.self.tests.now) l.self.tables.now l.depth l.fn.statements l.base l.reached l.rest;
  shorter : length l.rest ≤ length l.fn.statements;
}

abbrev pub decreases-decided_statements-loop-rest : goal.decreases-decided_statements-loop-rest
decreases-decided_statements-loop-rest l = length l.rest
