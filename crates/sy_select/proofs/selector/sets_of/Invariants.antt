use Rattle.std.proofs.Common.{length, map}
use Rattle.sy_select.proofs.SelectorLaws.{PartsSoFar}
use Rattle.sy_select.proofs.selector.sets_of.Given as goal

abbrev pub invariant-parts : goal.invariant-parts
invariant-parts l = PartsSoFar l.text l.rest (map (λ x. x.0) l.sets)

abbrev pub decreases-parts : goal.decreases-parts
decreases-parts l = length l.rest
