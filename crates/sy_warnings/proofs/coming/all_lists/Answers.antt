use Rattle.std.proofs.Common.{subst, sym}
use Rattle.sy_warnings.specs.internal.Following.{AreOfAllBelow}
use Rattle.sy_warnings.proofs.Gathered.{classes_all, classes_first}
use Rattle.sy_warnings.proofs.coming.all_lists.Goals as goal

pub loop-number-init : goal.loop-number-init
loop-number-init c = subst (AreOfAllBelow c.args.site.now c.args.by 0) (sym c.new-all.ensures.items) (classes_first c.args.site.now c.args.by)

pub loop-number-preserved : goal.loop-number-preserved
loop-number-preserved c = c.in_ok-push_class.ensures c.loop-number.invariant

pub returns : goal.returns
returns c = classes_all c.args.site.now c.args.by c.loop-number.all.items c.loop-number.number c.loop-number-test.false c.loop-number.invariant
