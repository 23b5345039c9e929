use Rattle.std.proofs.Common.{◌≡◌, ◌+◌, ◌*◌, ◌≤◌, length, sum_by}
use Rattle.sy_rules.specs.internal.FlowWalk.{flow_followed_by, flow_of_statements}
use Rattle.sy_rules.proofs.lists.flow.Judge.+flow.Given as goal

-- Each call goes down by more than three times what any table is long.
abbrev pub decreases-list : goal.decreases-list
decreases-list l = l.depth * (2 + 3 * sum_by length l.self.tables.now)

abbrev pub decreases-statements : goal.decreases-statements
decreases-statements l = l.depth * (2 + 3 * sum_by length l.self.tables.now) + 1 + 3 * length l.statements.now

abbrev pub decreases-statement : goal.decreases-statement
decreases-statement l = l.depth * (2 + 3 * sum_by length l.self.tables.now) + 3 + 3 * length l.after.now

abbrev pub decreases-block : goal.decreases-block
decreases-block l = l.depth * (2 + 3 * sum_by length l.self.tables.now) + 2 + 3 * length l.done.now + 3 * length l.otherwise.now

-- what was found so far, followed by what is left, is the whole
abbrev pub invariant-statements-loop-rest : goal.invariant-statements-loop-rest
invariant-statements-loop-rest l =
    let walked = flow_of_statements l.self.class l.self.tests.now l.self.tables.now l.depth in
    record {
      same : flow_followed_by l.flow (walked l.rest l.base) ≡ walked l.fn.statements l.base;
      shorter : length l.rest ≤ length l.fn.statements;
    }

abbrev pub decreases-statements-loop-rest : goal.decreases-statements-loop-rest
decreases-statements-loop-rest l = length l.rest
