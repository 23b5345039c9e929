use Rattle.std.proofs.Common.{◌≡◌, ◌++◌, map, drop}
use Rattle.sy_fit.proofs.accepted.push_pairs.Given as goal

abbrev pub invariant-loop-input : goal.invariant-loop-input
invariant-loop-input l = l.pairs.items ++ map (λ input. (input, l.class)) (drop l.input-index l.inputs)
    ≡ l.initial.pairs.items ++ map (λ input. (input, l.class)) l.inputs
