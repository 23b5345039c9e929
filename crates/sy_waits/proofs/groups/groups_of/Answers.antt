use Rattle.sy_waits.proofs.Alike.{all_groups}
use Rattle.sy_waits.proofs.groups.groups_of.Goals as goal

pub returns : goal.returns
returns c = all_groups c.args.site.now c.loop-number.groups.items c.loop-number.number c.loop-number-test.false c.loop-number.invariant
