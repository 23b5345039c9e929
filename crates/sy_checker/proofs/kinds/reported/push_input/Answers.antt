use Rattle.sy_checker.specs.internal.Survey.{Among, AreHeld, IsHeld}
use Rattle.sy_checker.proofs.Reporting.{held_among, reported_as, seven}
use Rattle.sy_checker.proofs.kinds.reported.push_input.Goals as goal

pub returns : goal.returns
returns c =
    reported_as c.args.site.now c.args.class (λ i j. Among seven (λ k. IsHeld c.args.site.now c.args.class c.args.input k i j))
    (AreHeld c.args.site.now c.args.class c.args.input) c.args.found.now.groups.items c.push_kinds.new.found.groups.items c.in_ok-push_kinds.ensures
    (λ i j p. held_among c.args.site.now c.args.class c.args.input i j p)
