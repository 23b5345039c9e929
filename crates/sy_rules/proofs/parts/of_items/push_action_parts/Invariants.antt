use Rattle.std.proofs.Common.{◌≡◌, ◌≤◌, ◌+◌, ◌++◌, length}
use Rattle.std.specs.Vec.Iter.{into_iter_items, into_iter_len}
use Rattle.sy_rules.specs.PlanValue.{action_parts}
use Rattle.sy_rules.proofs.parts.of_items.push_action_parts.Given as goal

-- what is found, and what the actions left give
abbrev pub invariant-loop-action : goal.invariant-loop-action
invariant-loop-action l = record {
  so_far : l.found.items ++ action_parts l.number (into_iter_items l.left) ≡ l.initial.found.items ++ action_parts 0 (into_iter_items l.initial.left);
  few : l.number + length (into_iter_items l.left) ≤ 256;
}

abbrev pub decreases-loop-action : goal.decreases-loop-action
decreases-loop-action l = into_iter_len l.left
