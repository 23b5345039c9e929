use Rattle.std.proofs.Common.{take}
use Rattle.sy_checker.specs.internal.Course.{AreCourses}
use Rattle.sy_fit.specs.Fit.{AreFit}
use Rattle.sy_checker.proofs.certifying.rows_of_classes.Given as goal

abbrev pub invariant-loop-class : goal.invariant-loop-class
invariant-loop-class l = AreFit l.site (take l.class-index l.classes) l.rows.items × AreCourses l.site l.courses.items
