use Rattle.sy_select.proofs.ApplyLaws.{AppliedSoFar}
use Rattle.sy_select.proofs.part.Part.apply.Given as goal

abbrev pub invariant-loop-facility : goal.invariant-loop-facility
invariant-loop-facility l = AppliedSoFar l.facility l.self.facilities l.self.level.takes l.self.level.severities.0 l.fn.sets l.sets
