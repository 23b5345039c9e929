use Rattle.sy_checker.proofs.Raised.{raised_at, raised_courses, raised_kept}
use Rattle.sy_checker.proofs.course.same_course.Goals as goal

pub returns-clause-courses : goal.returns-clause-courses
returns-clause-courses c =
    raised_courses c.args.site.now c.is_lawful.ensures c.args.class c.args.courses.now.items c.raise.new.courses.items c.args.place c.raise.ensures
    c.requires.course c.in_ok-search_course.ensures.clean c.requires.courses

pub returns-clause-kept : goal.returns-clause-kept
returns-clause-kept c =
    raised_kept c.args.site.now c.is_lawful.ensures c.args.class c.args.courses.now.items c.raise.new.courses.items c.args.place c.raise.ensures
    c.requires.course c.in_ok-search_course.ensures.clean

pub returns-clause-at : goal.returns-clause-at
returns-clause-at c =
    raised_at c.args.site.now c.is_lawful.ensures c.args.class c.args.courses.now.items c.raise.new.courses.items c.args.place c.raise.ensures
    c.requires.course c.in_ok-search_course.ensures.clean
