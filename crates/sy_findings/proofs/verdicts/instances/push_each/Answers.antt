use Rattle.sy_findings.proofs.Telling.{again}
use Rattle.sy_findings.proofs.verdicts.instances.push_each.Goals as goal

pub loop-place-preserved : goal.loop-place-preserved
loop-place-preserved c =
    again c.args.class c.args.input c.args.kind _ c.loop-place.found.instances.items _ c.loop-place.invariant c.in_ok-push_at-2.ensures

pub returns : goal.returns
returns c =
    again c.args.class c.args.input c.args.kind c.args.found.now.instances.items _ c.loop-place.found.instances.items c.in_ok-push_at.ensures
    c.loop-place.invariant
