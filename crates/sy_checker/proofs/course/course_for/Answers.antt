use Rattle.std.proofs.Common.{subst, sym}
use Rattle.sy_checker.specs.internal.Course.{IsCourseAt, IsSameAt}
use Rattle.sy_checker.proofs.Courses.{same_course_at}
use Rattle.sy_checker.proofs.course.course_for.Goals as goal

pub same_course-requires-clause-course : goal.same_course-requires-clause-course
same_course-requires-clause-course c =
    same_course_at c.args.site.now c.is_lawful.ensures c.args.class c.args.courses.now.items c.in_ok-lists.lists c.in-Some.place c.requires.courses
    c.in_ok-lists.ensures (subst (λ l. IsSameAt l c.in_ok-lists.lists c.in-Some.place) c.as_slice.ensures.value c.in-Some.ensures.some)
