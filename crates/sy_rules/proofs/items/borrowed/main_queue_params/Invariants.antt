use Rattle.std.proofs.Common.{◌≡◌, length, map, filter_map}
use Rattle.sy_rules.specs.internal.Checking.{AreClean}
use Rattle.sy_rules.specs.items.ItemViews.{item}
use Rattle.sy_rules.specs.parts.Plans.{main_queue_at}
use Rattle.sy_rules.proofs.items.borrowed.main_queue_params.Given as goal

-- none stood before the rest
abbrev pub invariant-loop-rest : goal.invariant-loop-rest
invariant-loop-rest l = record {
  so_far : filter_map main_queue_at (map item l.rest) ≡ filter_map main_queue_at (map item l.items);
  clean : AreClean (map item l.rest);
}

abbrev pub decreases-loop-rest : goal.decreases-loop-rest
decreases-loop-rest l = length l.rest
