use Rattle.std.proofs.Common.{◌≡◌, ◌++◌, length, map, filter_map}
use Rattle.sy_rules.specs.internal.Checking.{AreClean}
use Rattle.sy_rules.specs.items.ItemViews.{item}
use Rattle.sy_rules.specs.parts.Plans.{own_queue, queues_of}
use Rattle.sy_rules.proofs.parts.of_items.queues.Given as goal

-- what is found, and what the rest gives
abbrev pub invariant-loop-rest : goal.invariant-loop-rest
invariant-loop-rest l = record {
  so_far : l.found.items ++ filter_map own_queue (map item l.rest) ≡ queues_of (map item l.items);
  clean : AreClean (map item l.rest);
}

abbrev pub decreases-loop-rest : goal.decreases-loop-rest
decreases-loop-rest l = length l.rest
