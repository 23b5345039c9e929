use Rattle.std.proofs.Common.{◌≡◌, ◌<◌, ◌≤◌, get_or, length, subst}
use Rattle.sy_findings.proofs.Telling.{all_classes, more_classes}
use Rattle.sy_findings.proofs.verdicts.instances.push_group.Goals as goal

pub loop-class-preserved : goal.loop-class-preserved
loop-class-preserved c =
    let seen = c.as_slice-class-items.ensures.value in
    more_classes c.args.group.now.input c.args.group.now.kind c.args.group.now.classes.items c.loop-class.class-index c.class-item.result
    c.args.found.now.instances.items c.loop-class.found.instances.items c.push_each.new.found.instances.items
    (subst (λ l. c.loop-class.class-index < length l) seen c.loop-class-test.true)
    (subst (λ l. c.class-item.result ≡ get_or l c.loop-class.class-index c.class-item.result) seen c.class-item.is)
    c.loop-class.invariant c.in_ok-push_each.ensures

pub returns : goal.returns
returns c =
    all_classes c.args.group.now.input c.args.group.now.kind c.args.group.now.classes.items c.loop-class.class-index
    c.args.found.now.instances.items c.loop-class.found.instances.items
    (subst (λ l. length l ≤ c.loop-class.class-index) c.as_slice-class-items.ensures.value c.loop-class-test.false) c.loop-class.invariant
