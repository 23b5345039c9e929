use Rattle.std.proofs.Common.{◌≡◌, ◌≤◌, ◌+◌, ◌++◌, List, length, map}
use Rattle.sy_select.specs.declared.condition.Test.{Test}
use Rattle.sy_select.specs.Truth.{Formula}
use Rattle.sy_rules.specs.PlanValue.{listed_from}
use Rattle.sy_rules.specs.lists.Body.{occurrences}
use Rattle.sy_rules.specs.internal.Tables.{lines_of_tables}
use Rattle.sy_rules.proofs.plan.gathered.occurrences_of_lists.Given as goal

-- what is found, and what the rest executes
abbrev pub invariant-loop-rest : goal.invariant-loop-rest
invariant-loop-rest l = record {
  so_far : (tests : List (Formula Test)) → l.found.items ++ map (λ k. occurrences k.body) (listed_from (lines_of_tables tests l.tables) l.list l.rest) ≡ map (λ k. occurrences k.body) (listed_from (lines_of_tables tests l.tables) 0 l.queues);
  few : l.list + length l.rest ≤ 513;
}

abbrev pub decreases-loop-rest : goal.decreases-loop-rest
decreases-loop-rest l = length l.rest
