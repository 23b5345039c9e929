use Rattle.std.proofs.Common.{◌++◌, ◌∷◌, [], subst, sym}
use Rattle.sy_checker.specs.internal.Course.{AreCourses, AreKept, IsCourseAt}
use Rattle.sy_checker.proofs.Courses.{last_course, more_courses}
use Rattle.sy_checker.proofs.Shared.{course_kept}
use Rattle.sy_checker.proofs.course.more_course.Goals as goal

pub returns-clause-courses : goal.returns-clause-courses
returns-clause-courses c =
    subst (AreCourses c.args.site.now) (sym c.in_ok-place.ensures.courses)
    (more_courses c.args.site.now c.args.class c.args.courses.now.items c.in_ok-course.course c.requires.courses c.in_ok-course.ensures.ok)

pub returns-clause-at : goal.returns-clause-at
returns-clause-at c =
    subst (λ l. IsCourseAt c.args.site.now c.args.class l c.in_ok-place.place) (sym c.in_ok-place.ensures.courses)
    (subst (IsCourseAt c.args.site.now c.args.class (c.args.courses.now.items ++ c.in_ok-course.course ∷ [])) (sym c.in_ok-place.ensures.place)
    (last_course c.args.site.now c.args.class c.args.courses.now.items c.in_ok-course.course c.in_ok-course.ensures.ok))

pub returns-clause-kept : goal.returns-clause-kept
returns-clause-kept c =
    subst (AreKept c.args.site.now c.args.courses.now.items) (sym c.in_ok-place.ensures.courses)
    (course_kept c.args.site.now c.args.courses.now.items (c.in_ok-course.course ∷ []))
