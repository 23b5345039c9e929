use Rattle.std.proofs.Common.{◌≡◌, ◌≤◌, ◌+◌, ◌++◌, length, map, filter_map}
use Rattle.sy_rules.specs.items.ItemViews.{item}
use Rattle.sy_rules.specs.parts.Plans.{own_queue, action_queues}
use Rattle.sy_rules.proofs.parts.of_lists.push_action_queues.Given as goal

-- what is found, and what the rest gives; the numbers of the queues that the rest has are small
abbrev pub invariant-loop-rest : goal.invariant-loop-rest
invariant-loop-rest l = record {
  so_far : l.found.items ++ action_queues l.number (map item l.rest) ≡ l.initial.found.items ++ action_queues 1 (map item l.items);
  few : l.number + length (filter_map own_queue (map item l.rest)) ≤ 513;
}

abbrev pub decreases-loop-rest : goal.decreases-loop-rest
decreases-loop-rest l = length l.rest
