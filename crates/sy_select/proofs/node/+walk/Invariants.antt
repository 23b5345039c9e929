use Rattle.std.proofs.Common.{◌≡◌, map, drop}
use Rattle.sy_select.specs.Truth.{any, all}
use Rattle.sy_select.specs.internal.Nodes.{formula}
use Rattle.sy_select.specs.Properties.{known}
use Rattle.sy_select.specs.internal.Walk.{verdict, or_of, and_of}
use Rattle.sy_select.proofs.node.+walk.Given as goal

abbrev pub invariant-all_verdict-loop-part : goal.invariant-all_verdict-loop-part
invariant-all_verdict-loop-part l =
    let k = known l.class in
    verdict k (all (map formula l.parts)) ≡ and_of l.verdict (verdict k (all (map formula (drop l.part-index l.parts))))

abbrev pub invariant-any_verdict-loop-part : goal.invariant-any_verdict-loop-part
invariant-any_verdict-loop-part l =
    let k = known l.class in
    verdict k (any (map formula l.parts)) ≡ or_of l.verdict (verdict k (any (map formula (drop l.part-index l.parts))))
