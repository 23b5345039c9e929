-- The tests of a script's items, and what is wrong with them.
use Rattle.std.specs.Prelude.{List}
use Rattle.std.specs.List.{filter_map}
use Rattle.sy_script.specs.declared.tree.ExprTree.{ExprTree}
use Rattle.sy_rules.specs.items.Outline.{Item}
use Rattle.sy_rules.specs.PlanValue.{test_of_item}

-- in the order of the text
abbrev pub trees_of : List Item → List ExprTree
trees_of items = filter_map test_of_item items
