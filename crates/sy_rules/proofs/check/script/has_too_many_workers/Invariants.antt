use Rattle.std.proofs.Common.{◌≡◌, ◌≤◌, ◌+◌, length, map, sum}
use Rattle.std.specs.List.{filter_map}
use Rattle.sy_rules.specs.items.ItemViews.{item}
use Rattle.sy_rules.specs.internal.Checking.{AreClean}
use Rattle.sy_rules.specs.parts.Plans.{own_queue, queues_of}
use Rattle.sy_rules.proofs.check.script.has_too_many_workers.Given as goal

-- the workers so far, and those of what is left
abbrev pub invariant-loop-rest : goal.invariant-loop-rest
invariant-loop-rest l = record {
  total : l.workers + sum (map (λ q. q.workers) (filter_map own_queue (map item l.rest))) ≡ sum (map (λ q. q.workers) (queues_of (map item l.items)));
  most : l.workers ≤ 320;
  clean : AreClean (map item l.rest);
}

abbrev pub decreases-loop-rest : goal.decreases-loop-rest
decreases-loop-rest l = length l.rest
