use Rattle.std.proofs.Common.{◌≡◌, ◌++◌, List, drop, map}
use Rattle.sy_select.specs.Truth.{Formula}
use Rattle.sy_select.specs.declared.condition.Test.{Test}
use Rattle.sy_rules.specs.items.Expressions.{trees_of}
use Rattle.sy_rules.specs.internal.Checking.{faults_of_trees}
use Rattle.sy_rules.specs.items.ItemViews.{item}
use Rattle.sy_rules.specs.PlanValue.{AreExprs}
use Rattle.sy_rules.proofs.parts.expressions.read_tests.Given as goal

-- what the rest reads as, the whole reads as with what is read before it; and nothing is wrong with what was read
abbrev pub invariant-loop-item : goal.invariant-loop-item
invariant-loop-item l = record {
  found : (later : List (Formula Test)) → AreExprs (trees_of (map item (drop l.item-index l.items))) later → AreExprs (trees_of (map item l.items)) (l.tests.items ++ later);
  right : faults_of_trees (trees_of (map item (drop l.item-index l.items))) ≡ faults_of_trees (trees_of (map item l.items));
}
