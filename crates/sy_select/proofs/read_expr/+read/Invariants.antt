use Rattle.std.proofs.Common.{◌≡◌, ◌++◌, List, map, drop}
use Rattle.sy_select.specs.declared.condition.Test.{Test}
use Rattle.sy_select.specs.internal.Nodes.{formula}
use Rattle.sy_select.specs.Trees.{written, all_faults, Means}
use Rattle.sy_select.specs.Truth.{Formula, any}
use Rattle.sy_select.proofs.read_expr.+read.Given as goal

abbrev pub invariant-nodes-loop-part : goal.invariant-nodes-loop-part
invariant-nodes-loop-part l =
    (all_faults (any (map written l.parts)) ≡ all_faults (any (map written (drop l.part-index l.parts))))
    × ((later : List (Formula Test)) → Means (any (map written (drop l.part-index l.parts))) (any later) → Means (any (map written l.parts)) (any (map formula l.nodes ++ later)))
