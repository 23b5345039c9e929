use Rattle.sy_rules.proofs.lemmas.lists.ColumnLaws.{ColumnsSoFar}
use Rattle.sy_rules.proofs.lists.columns.columns_of.Given as goal

abbrev pub invariant-loop-number : goal.invariant-loop-number
invariant-loop-number l = ColumnsSoFar l.number l.tests l.of_class l.classes.items
