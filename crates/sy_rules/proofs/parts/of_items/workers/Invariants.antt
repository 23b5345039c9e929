use Rattle.std.proofs.Common.{◌≡◌, ◌≤◌, ◌+◌, ◌++◌, length}
use Rattle.sy_rules.specs.parts.Plans.{workers_from}
use Rattle.sy_rules.proofs.parts.of_items.workers.Given as goal

-- what is found, and what the rest gives
abbrev pub invariant-loop-rest : goal.invariant-loop-rest
invariant-loop-rest l = record {
  so_far : l.found.items ++ workers_from l.number l.rest ≡ workers_from 0 l.queues;
  few : l.number + length l.rest ≤ 513;
}

abbrev pub decreases-loop-rest : goal.decreases-loop-rest
decreases-loop-rest l = length l.rest
