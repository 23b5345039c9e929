use Rattle.std.proofs.Common.{◌≡◌, ◌∙◌, ◌+◌, subst, sym}
use Rattle.std.proofs.lemmas.Bool.{false≢true}
use Rattle.sy_warnings.specs.internal.Following.{AreOfAllBelow}
use Rattle.sy_warnings.proofs.Gathered.{class_push, class_skip}
use Rattle.sy_warnings.proofs.coming.push_class.Goals as goal

pub returns-in_ok-push : goal.returns-in_ok-push
returns-in_ok-push c = λ are.
    subst (AreOfAllBelow c.args.site.now c.args.by (c.args.number + 1)) (sym c.in_ok-push.ensures.items)
    (class_push c.args.site.now c.args.by c.args.number c.args.all.now.items c.in_ok-lists.lists c.of_number-class.result c.of_number-class.ensures
    (c.is_asked.ensures.0 c.if-is_asked.true) c.in_ok-lists.ensures.class c.in_ok-lists.ensures.marks are)

pub returns-else-is_asked : goal.returns-else-is_asked
returns-else-is_asked c = λ are.
    class_skip c.args.site.now c.args.by c.args.number c.args.all.now.items c.of_number-class.result c.of_number-class.ensures
    (λ asked. false≢true (sym c.if-is_asked.false ∙ c.is_asked.ensures.1 asked)) are
