use Rattle.std.proofs.Common.{length}
use Rattle.sy_select.proofs.PartLaws.{NamesSoFar}
use Rattle.sy_select.proofs.part.listed.Given as goal

abbrev pub invariant-names : goal.invariant-names
invariant-names l = NamesSoFar l.whole l.text l.rest l.set

abbrev pub decreases-names : goal.decreases-names
decreases-names l = length l.rest
