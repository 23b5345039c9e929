use Rattle.std.proofs.Common.{◌≡◌, ◌++◌, replicate}
use Rattle.sy_rules.proofs.parts.of_items.push_workers.Given as goal

-- what is found, and what is left
abbrev pub invariant-loop-left : goal.invariant-loop-left
invariant-loop-left l = l.found.items ++ replicate l.left l.queue ≡ l.initial.found.items ++ replicate l.count l.queue

abbrev pub decreases-loop-left : goal.decreases-loop-left
decreases-loop-left l = l.left
