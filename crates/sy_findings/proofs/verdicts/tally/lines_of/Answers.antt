use Rattle.std.proofs.Common.{subst, sym}
use Rattle.sy_findings.proofs.Lineup.{GoesOn, line_more, lines_all}
use Rattle.sy_findings.proofs.verdicts.tally.lines_of.Goals as goal

pub loop-instance-init : goal.loop-instance-init
loop-instance-init c = subst (GoesOn c.args.site.now c.args.instances.now 0) (sym c.new-text.ensures.items) (λ rest are. are)

pub loop-instance-preserved : goal.loop-instance-preserved
loop-instance-preserved c =
    line_more c.args.site.now c.args.instances.now c.loop-instance.instance-index c.instance-item.result c.loop-instance.text.items
    c.push_instance.new.text.items c.loop-instance-test.true c.instance-item.is c.loop-instance.invariant c.in_ok-push_instance.ensures

pub returns : goal.returns
returns c = lines_all c.args.site.now c.args.instances.now c.loop-instance.instance-index c.loop-instance.text.items c.loop-instance-test.false c.loop-instance.invariant
