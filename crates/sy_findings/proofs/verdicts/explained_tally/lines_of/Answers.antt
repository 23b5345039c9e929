use Rattle.std.proofs.Common.{subst, sym}
use Rattle.sy_findings.proofs.Lineup.{GoesOnInWords, line_more_in_words, lines_all_in_words}
use Rattle.sy_findings.proofs.verdicts.explained_tally.lines_of.Goals as goal

pub loop-instance-init : goal.loop-instance-init
loop-instance-init c = subst (GoesOnInWords c.args.site.now c.args.instances.now 0) (sym c.new-text.ensures.items) (λ rest are. are)

pub loop-instance-preserved : goal.loop-instance-preserved
loop-instance-preserved c =
    line_more_in_words c.args.site.now c.args.instances.now c.loop-instance.instance-index c.instance-item.result c.loop-instance.text.items
    c.push_explained.new.text.items c.loop-instance-test.true c.instance-item.is c.loop-instance.invariant c.in_ok-push_explained.ensures

pub returns : goal.returns
returns c =
    lines_all_in_words c.args.site.now c.args.instances.now c.loop-instance.instance-index c.loop-instance.text.items c.loop-instance-test.false c.loop-instance.invariant
