use Rattle.std.proofs.Common.{◌≡◌, List, [], append-nil, drop, map, subst}
use Rattle.std.proofs.Math.ListN.{drop_of_length-le}
use Rattle.sy_select.specs.Truth.{Formula}
use Rattle.sy_select.specs.declared.condition.Test.{Test}
use Rattle.sy_rules.specs.items.Expressions.{trees_of}
use Rattle.sy_rules.specs.items.ItemViews.{item}
use Rattle.sy_rules.specs.PlanValue.{AreExprs}
use Rattle.sy_rules.proofs.parts.expressions.read_tests.Goals as goal

-- nothing is left, so that nothing comes after what is read
pub returns-clause-found : goal.returns-clause-found
returns-clause-found c =
    let items = c.args.items.now in
    let Reads : List (Formula Test) → Type 0 = λ xs. AreExprs (trees_of (map item items)) xs in
    let end : drop c.loop-item.item-index items ≡ [] = drop_of_length-le items c.loop-item-test.false in
    subst Reads (append-nil c.loop-item.tests.items) (c.loop-item.invariant.found [] (rw end tt))
