use Rattle.std.proofs.Common.{◌∷◌, ◌++◌, [], subst, sym, take}
use Rattle.std.specs.Prelude.{Contains}
use Rattle.std.proofs.lemmas.List.{take_all}
use Rattle.std.proofs.lemmas.List.Elements.{Contains-get_or}
use Rattle.sy_checker.specs.internal.Course.{AreCourses}
use Rattle.sy_fit.specs.Fit.{AreFit}
use Rattle.sy_checker.proofs.Courses.{no_courses}
use Rattle.sy_fit.proofs.Guarded.{take_next}
use Rattle.sy_checker.proofs.certifying.rows_of_classes.Goals as goal

pub loop-class-init : goal.loop-class-init
loop-class-init c = (c.new-rows.ensures.items, subst (AreCourses c.args.site.now) (sym c.new-courses.ensures.items) (no_courses c.args.site.now))

pub push_class-requires : goal.push_class-requires
push_class-requires c = record {
  protected = c.requires.protected c.class-item.result
      (subst (Contains c.args.classes.now) (sym c.class-item.is)
      (Contains-get_or c.args.classes.now c.loop-class.class-index c.class-item.result c.loop-class-test.true));
  firm = c.in_ok-firm.ensures;
  courses = c.loop-class.invariant.1;
}

pub loop-class-preserved : goal.loop-class-preserved
loop-class-preserved c =
    let site = c.args.site.now in
    let before = take c.loop-class.class-index c.args.classes.now in
    let added = c.in_ok-push_class.ensures.rows in
    let it = added.are in (
      subst (λ l. AreFit site l c.push_class.new.rows.items)
          (take_next c.args.classes.now c.loop-class.class-index c.class-item.result c.loop-class-test.true c.class-item.is)
          (subst (AreFit site (before ++ c.class-item.result ∷ [])) (sym added.whole)
          (c.parts_join.ensures site before c.class-item.result it.part c.loop-class.rows.items added.more c.loop-class.invariant.0 it.are_wanted
          it.right it.many)),
      c.in_ok-push_class.ensures.courses,
    )

pub returns-clause-ok : goal.returns-clause-ok
returns-clause-ok c =
    subst (λ l. AreFit c.args.site.now l c.loop-class.rows.items) (take_all c.loop-class.class-index c.args.classes.now c.loop-class-test.false)
    c.loop-class.invariant.0
