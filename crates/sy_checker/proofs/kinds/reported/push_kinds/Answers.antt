use Rattle.sy_checker.specs.internal.Survey.{IsHeld}
use Rattle.sy_checker.proofs.Reporting.{all_reported, more_reported}
use Rattle.sy_checker.proofs.kinds.reported.push_kinds.Goals as goal

pub loop-kind-preserved : goal.loop-kind-preserved
loop-kind-preserved c =
    more_reported c.args.site.now c.args.class (λ k. IsHeld c.args.site.now c.args.class c.args.input k) c.args.kinds.now c.loop-kind.kind-index
    _ c.args.found.now.groups.items c.loop-kind.found.groups.items c.push_kind.new.found.groups.items c.loop-kind-test.true
    c.loop-kind.invariant c.in_ok-push_kind.ensures

pub returns : goal.returns
returns c =
    all_reported c.args.site.now c.args.class (λ k. IsHeld c.args.site.now c.args.class c.args.input k) c.args.kinds.now c.loop-kind.kind-index
    c.args.found.now.groups.items c.loop-kind.found.groups.items c.loop-kind-test.false c.loop-kind.invariant
