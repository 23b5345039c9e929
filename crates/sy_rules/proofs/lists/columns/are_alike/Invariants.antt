use Rattle.sy_rules.proofs.lemmas.lists.ColumnLaws.{AlikeSoFar}
use Rattle.sy_rules.proofs.lists.columns.are_alike.Given as goal

abbrev pub invariant-loop-test : goal.invariant-loop-test
invariant-loop-test l = AlikeSoFar l.test-index l.tests l.one l.other
