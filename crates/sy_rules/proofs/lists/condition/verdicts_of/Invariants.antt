use Rattle.sy_rules.proofs.lemmas.lists.ClassVerdicts.{SaidSoFar}
use Rattle.sy_rules.proofs.lists.condition.verdicts_of.Given as goal

abbrev pub invariant-loop-severity : goal.invariant-loop-severity
invariant-loop-severity l = SaidSoFar l.severity l.expr l.facility l.found
