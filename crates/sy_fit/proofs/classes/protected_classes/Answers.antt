use Rattle.std.proofs.Common.{subst, sym}
use Rattle.sy_fit.specs.internal.Order.{AreProtectedBelow}
use Rattle.sy_fit.proofs.Numbered.{classes_all, classes_first}
use Rattle.sy_fit.proofs.classes.protected_classes.Goals as goal

pub loop-number-init : goal.loop-number-init
loop-number-init c = subst (AreProtectedBelow c.args.site.now 0) (sym c.new-found.ensures.items) (classes_first c.args.site.now)

pub loop-number-preserved : goal.loop-number-preserved
loop-number-preserved c = c.in_ok-push_class.ensures c.loop-number.invariant

pub returns : goal.returns
returns c = classes_all c.args.site.now c.loop-number.found.items c.loop-number.number c.loop-number-test.false c.loop-number.invariant
