use Rattle.std.proofs.Common.{length, ap, ◌∙◌, subst}
use Rattle.sy_rules.specs.internal.ClassFlows.{HasAlike}
use Rattle.sy_rules.proofs.lemmas.lists.ColumnLaws.{columns_kept, columns_new}
use Rattle.sy_rules.proofs.lists.columns.columns_of.Goals.{then-is_new+in_ok-push, else-is_new}
use Rattle.sy_rules.proofs.lists.columns.columns_of.Goals as goal

pub loop-number-preserved : goal.loop-number-preserved
loop-number-preserved c =
    let n = c.loop-number.number in
    let tests = c.args.tests.now in
    let class = c.of_number-class.result in
    let old = c.loop-number.classes.items in
    let column = c.column_of-column.result in
    elim c.if-is_new.branch [
      | then-is_new+in_ok-push w ↦ columns_new n c.from.result tests c.loop-number.of_class old _ class column c.from.ensures c.of_number-class.ensures c.loop-number-test.true c.loop-number.invariant (w.if-is_new.true ∙ ap length c.as_slice-known.ensures.value) (ap (λ v. v.items) w.classes-is ∙ w.in_ok-push.ensures.items)
      | else-is_new w ↦ columns_kept n c.from.result tests c.loop-number.of_class old _ class column c.from.ensures c.of_number-class.ensures c.loop-number-test.true c.loop-number.invariant (subst (λ cs. HasAlike tests cs column class) c.as_slice-known.ensures.value (c.column_of-column.ensures.found w.if-is_new.false)) (ap (λ v. v.items) w.classes-is)
    ]
