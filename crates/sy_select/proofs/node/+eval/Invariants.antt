use Rattle.std.proofs.Common.{◌≡◌, map, drop}
use Rattle.sy_select.specs.Truth.{any, all}
use Rattle.sy_select.specs.internal.Nodes.{formula}
use Rattle.sy_select.specs.Properties.{says}
use Rattle.sy_select.specs.internal.Walk.{holds}
use Rattle.sy_select.proofs.node.+eval.Given as goal

abbrev pub invariant-all_true-loop-part : goal.invariant-all_true-loop-part
invariant-all_true-loop-part l = holds (says l.message) (all (map formula l.parts)) ≡ holds (says l.message) (all (map formula (drop l.part-index l.parts)))

abbrev pub invariant-any_true-loop-part : goal.invariant-any_true-loop-part
invariant-any_true-loop-part l = holds (says l.message) (any (map formula l.parts)) ≡ holds (says l.message) (any (map formula (drop l.part-index l.parts)))
