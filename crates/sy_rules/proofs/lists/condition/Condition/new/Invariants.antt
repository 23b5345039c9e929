use Rattle.sy_rules.proofs.lemmas.lists.ClassVerdicts.{FreeSoFar, JudgedSoFar}
use Rattle.sy_rules.proofs.lists.condition.Condition.new.Given as goal

abbrev pub invariant-loop-facility : goal.invariant-loop-facility
invariant-loop-facility l = record {
  judged : JudgedSoFar l.facility l.expr l.verdicts;
  free : FreeSoFar l.facility l.expr l.free;
}
