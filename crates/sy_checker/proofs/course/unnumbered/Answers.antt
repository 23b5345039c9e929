use Rattle.std.proofs.Common.{subst}
use Rattle.sy_checker.specs.internal.Inner.{HasNoNumbers}
use Rattle.sy_checker.proofs.course.unnumbered.Goals as goal

pub finding_at-requires-clause-unclean : goal.finding_at-requires-clause-unclean
finding_at-requires-clause-unclean c =
    let it = subst (HasNoNumbers c.args.site.now c.args.class c.args.found.now.inputs.items) c.in-Loop.is c.requires.none in
    record { input = it.input; stands = it.stands; holds = it.loops }
