-- The expression that a tree of the program stands for.
use Rattle.sy_select.specs.declared.condition.Test.{Test}
use Rattle.sy_select.specs.declared.node.Node.{Node}
use Rattle.sy_select.specs.declared.node.Node.TheOpen.{Node-F}
use Rattle.sy_select.specs.declared.node.Node.TheFolds.{fold-Node}
use Rattle.sy_select.specs.Truth.{Formula, any, all}

abbrev pub formula_step : Node-F (Formula Test) → Formula Test
formula_step (Node-F.Test t) = Formula.Test t
formula_step (Node-F.Not x) = Formula.Not x
formula_step (Node-F.Or xs) = any xs
formula_step (Node-F.And xs) = all xs

abbrev pub formula : Node → Formula Test
formula = fold-Node (Formula Test) formula_step
