use Rattle.sy_findings.proofs.Telling.{all_groups, more_groups}
use Rattle.sy_findings.proofs.verdicts.instances.instances_of.Goals as goal

pub loop-group-preserved : goal.loop-group-preserved
loop-group-preserved c =
    more_groups c.args.groups.now c.loop-group.group-index c.group-item.result c.loop-group.found.instances.items c.push_group.new.found.instances.items
    c.loop-group-test.true c.group-item.is c.loop-group.invariant c.in_ok-push_group.ensures
