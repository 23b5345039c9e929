use Rattle.std.proofs.Common.{◌+◌, refl, subst, sym}
use Rattle.sy_waits.specs.internal.Groups.{AreGroupsBelow, HasGroup}
use Rattle.sy_waits.proofs.Alike.{group_kept, group_pushed}
use Rattle.sy_waits.proofs.groups.push_class.Goals as goal

pub returns-then-has_group : goal.returns-then-has_group
returns-then-has_group c = λ before.
    group_kept c.args.site.now c.args.number c.args.groups.now.items c.of_number-class.result c.of_number-class.ensures
    (subst (HasGroup c.args.site.now c.of_number-class.result) c.as_slice.ensures.value (c.has_group.ensures c.if-has_group.true)) before

pub returns : goal.returns
returns c = λ before.
    subst (AreGroupsBelow c.args.site.now (c.args.number + 1)) (sym c.in_ok-push.ensures.items)
    (group_pushed c.args.site.now c.args.number c.args.groups.now.items (record { class = c.of_number-class.result; marks = c.in_ok-marks.marks })
    c.of_number-class.result c.of_number-class.ensures refl before)
