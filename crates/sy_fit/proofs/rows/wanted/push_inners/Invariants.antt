use Rattle.std.proofs.Common.{◌≡◌, ◌++◌, map, drop}
use Rattle.sy_fit.specs.declared.rows.wanted.Wanted.TheVariants as wanted
use Rattle.sy_fit.proofs.rows.wanted.push_inners.Given as goal

abbrev pub invariant-loop-inner : goal.invariant-loop-inner
invariant-loop-inner l = l.part.items ++ map (wanted.Inner) (drop l.inner-index l.inners) ≡ l.initial.part.items ++ map (wanted.Inner) l.inners
