use Rattle.std.proofs.Common.{[], subst, sym, take}
use Rattle.std.specs.Prelude.{Contains}
use Rattle.std.proofs.lemmas.List.{take_all}
use Rattle.std.proofs.lemmas.List.Elements.{Contains-get_or}
use Rattle.sy_fit.specs.Acceptance.{AreReached}
use Rattle.sy_checker.specs.internal.Checking.{AreSound}
use Rattle.sy_checker.specs.internal.Course.{AreCourses}
use Rattle.sy_checker.specs.internal.Met.{AreMet}
use Rattle.sy_checker.proofs.Courses.{no_courses}
use Rattle.sy_fit.proofs.Guarded.{reached_first, take_next}
use Rattle.sy_checker.proofs.Shared.{more_sound, none_sound, nothing_met}
use Rattle.sy_checker.proofs.checking.check_classes.Goals as goal

pub loop-class-init : goal.loop-class-init
loop-class-init c = (
  none_sound c.args.site.now,
  subst (AreReached c.args.site.now []) (sym c.new-pairs.ensures.items) (reached_first c.args.site.now),
  subst (AreCourses c.args.site.now) (sym c.new-courses.ensures.items) (no_courses c.args.site.now),
  subst (AreMet c.args.site.now c.new-courses.result.items) (sym c.new-met.ensures.items) (nothing_met c.args.site.now c.new-courses.result.items),
)

pub check_class-requires : goal.check_class-requires
check_class-requires c = record {
  protected = c.requires.protected c.class-item.result
      (subst (Contains c.args.classes.now) (sym c.class-item.is)
      (Contains-get_or c.args.classes.now c.loop-class.class-index c.class-item.result c.loop-class-test.true));
  firm = c.in_ok-firm.ensures;
  courses = c.loop-class.invariant.2;
  met = c.loop-class.invariant.3;
}

pub loop-class-preserved : goal.loop-class-preserved
loop-class-preserved c =
    let site = c.args.site.now in
    let before = take c.loop-class.class-index c.args.classes.now in
    let next = take_next c.args.classes.now c.loop-class.class-index c.class-item.result c.loop-class-test.true c.class-item.is in (
      subst (AreSound site) next (more_sound site before c.class-item.result c.loop-class.invariant.0 c.in_ok-check_class.ensures.sound),
      subst (λ l. AreReached site l c.check_class.new.pairs.items) next (c.in_ok-check_class.ensures.pairs before c.loop-class.invariant.1),
      c.in_ok-check_class.ensures.courses,
      c.in_ok-check_class.ensures.met,
    )

pub returns-clause-sound : goal.returns-clause-sound
returns-clause-sound c =
    subst (AreSound c.args.site.now) (take_all c.loop-class.class-index c.args.classes.now c.loop-class-test.false) c.loop-class.invariant.0

pub returns-clause-pairs : goal.returns-clause-pairs
returns-clause-pairs c =
    subst (λ l. AreReached c.args.site.now l c.loop-class.pairs.items) (take_all c.loop-class.class-index c.args.classes.now c.loop-class-test.false)
    c.loop-class.invariant.1
