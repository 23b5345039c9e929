use Rattle.std.proofs.Common.{subst, sym}
use Rattle.sy_checker.specs.internal.Met.{AreMet}
use Rattle.sy_checker.proofs.Shared.{still_met}
use Rattle.sy_checker.proofs.checking.check_class.Goals as goal

pub check_archives-requires-clause-met : goal.check_archives-requires-clause-met
check_archives-requires-clause-met c =
    subst (λ l. AreMet c.args.site.now l c.args.met.now.items) (sym c.as_slice.ensures.value)
    (still_met c.args.site.now c.args.courses.now.items c.course_for.new.courses.items c.args.met.now.items c.in_ok-place.ensures.kept c.requires.met)

pub returns-clause-met : goal.returns-clause-met
returns-clause-met c =
    subst (λ l. AreMet c.args.site.now l c.check_archives.new.met.items) c.as_slice.ensures.value c.in_ok-check_archives.ensures.met
