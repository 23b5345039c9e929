use Rattle.std.proofs.Common.{◌≡◌, ◌++◌, map, drop}
use Rattle.sy_fit.specs.declared.rows.wanted.Wanted.TheVariants as wanted
use Rattle.sy_fit.proofs.rows.wanted.push_inputs.Given as goal

abbrev pub invariant-loop-input : goal.invariant-loop-input
invariant-loop-input l = l.part.items ++ map (wanted.Reach) (drop l.input-index l.inputs) ≡ l.initial.part.items ++ map (wanted.Reach) l.inputs
