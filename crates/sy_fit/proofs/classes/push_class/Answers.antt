use Rattle.std.proofs.Common.{◌+◌, ◌∙◌, subst, sym}
use Rattle.sy_fit.specs.internal.Order.{AreProtectedBelow}
use Rattle.sy_fit.proofs.Numbered.{class_push, class_skip}
use Rattle.sy_fit.proofs.classes.push_class.Goals as goal

pub returns-in_ok-push : goal.returns-in_ok-push
returns-in_ok-push c = λ are.
    subst (AreProtectedBelow c.args.site.now (c.args.number + 1)) (sym c.in_ok-push.ensures.items)
    (class_push c.args.site.now c.args.number c.args.found.now.items c.of_number-class.result c.of_number-class.ensures are
    (sym c.is_protected.ensures ∙ c.if-is_protected.true))

pub returns-else-is_protected : goal.returns-else-is_protected
returns-else-is_protected c = λ are.
    class_skip c.args.site.now c.args.number c.args.found.now.items c.of_number-class.result c.of_number-class.ensures are
    (sym c.is_protected.ensures ∙ c.if-is_protected.false)
