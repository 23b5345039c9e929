use Rattle.std.proofs.Common.{◌≡◌, ◌++◌, length, map}
use Rattle.sy_rules.specs.internal.Checking.{AreClean}
use Rattle.sy_rules.specs.items.ItemViews.{item}
use Rattle.sy_rules.specs.parts.Plans.{inputs_of}
use Rattle.sy_rules.specs.PlanValue.{input_part}
use Rattle.sy_rules.proofs.parts.of_items.inputs.Given as goal

-- what is found, and what the rest gives
abbrev pub invariant-loop-rest : goal.invariant-loop-rest
invariant-loop-rest l = record {
  so_far : l.found.items ++ map (input_part (map item l.items)) (inputs_of (map item l.rest)) ≡ map (input_part (map item l.items)) (inputs_of (map item l.items));
  clean : AreClean (map item l.rest);
}

abbrev pub decreases-loop-rest : goal.decreases-loop-rest
decreases-loop-rest l = length l.rest
