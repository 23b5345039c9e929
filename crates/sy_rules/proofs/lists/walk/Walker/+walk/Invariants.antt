use Rattle.std.proofs.Common.{◌≡◌, ◌+◌, ◌*◌, ◌≤◌, length, sum_by}
use Rattle.sy_select.specs.Properties.{says}
use Rattle.sy_rules.specs.internal.TableWalk.{followed_by, work_of_statements}
use Rattle.sy_rules.proofs.lists.walk.Walker.+walk.Given as goal

-- Each call goes down by more than three times what any table is long.
abbrev pub decreases-list : goal.decreases-list
decreases-list l = l.depth * (2 + 3 * sum_by length l.self.tables.now)

abbrev pub decreases-statements : goal.decreases-statements
decreases-statements l = l.depth * (2 + 3 * sum_by length l.self.tables.now) + 1 + 3 * length l.statements.now

abbrev pub decreases-statement : goal.decreases-statement
decreases-statement l = l.depth * (2 + 3 * sum_by length l.self.tables.now) + 3 + 3 * length l.after.now

-- what was found so far, followed by what is left, is the whole
abbrev pub invariant-statements-loop-rest : goal.invariant-statements-loop-rest
invariant-statements-loop-rest l =
    let walked = work_of_statements (says l.self.message.now) l.self.tests.now l.self.tables.now l.depth in
    record {
      same : followed_by l.reached (walked l.rest l.base) ≡ walked l.fn.statements l.base;
      shorter : length l.rest ≤ length l.fn.statements;
    }

abbrev pub decreases-statements-loop-rest : goal.decreases-statements-loop-rest
decreases-statements-loop-rest l = length l.rest
