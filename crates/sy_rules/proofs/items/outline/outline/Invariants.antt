use Rattle.std.proofs.Common.{◌≡◌, ◌++◌, length, map}
use Rattle.sy_rules.specs.items.ItemViews.{placed}
use Rattle.sy_rules.specs.items.Outline.{placed_in_tops}
use Rattle.sy_rules.proofs.items.outline.outline.Given as goal

abbrev pub invariant-loop-rest : goal.invariant-loop-rest
invariant-loop-rest l = map placed l.found.items ++ placed_in_tops l.rest ≡ placed_in_tops l.script.tops

abbrev pub decreases-loop-rest : goal.decreases-loop-rest
decreases-loop-rest l = length l.rest
