use Rattle.sy_checker.specs.internal.Survey.{IsHeld}
use Rattle.sy_checker.proofs.Reporting.{is_there, push_reported}
use Rattle.sy_checker.proofs.kinds.reported.push_kind.Goals as goal

pub returns : goal.returns
returns c =
    push_reported c.args.site.now c.args.class c.args.input c.args.kind (IsHeld c.args.site.now c.args.class c.args.input c.args.kind)
    c.args.found.now.groups.items c.push_found.new.found.groups.items c.in_ok-push_found.ensures
    (is_there c.args.site.now c.args.class c.args.input c.args.kind c.requires.protected c.requires.reached (c.in_ok-held.ensures.0 c.if-not-held.false))
    (λ i j p. (p.0, p.1))
