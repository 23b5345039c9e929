use Rattle.std.proofs.Common.{take}
use Rattle.sy_fit.specs.Acceptance.{AreReached}
use Rattle.sy_checker.specs.internal.Checking.{AreSound}
use Rattle.sy_checker.specs.internal.Course.{AreCourses}
use Rattle.sy_checker.specs.internal.Met.{AreMet}
use Rattle.sy_checker.proofs.checking.check_classes.Given as goal

abbrev pub invariant-loop-class : goal.invariant-loop-class
invariant-loop-class l = AreSound l.site (take l.class-index l.classes) × AreReached l.site (take l.class-index l.classes) l.pairs.items
    × AreCourses l.site l.courses.items × AreMet l.site l.courses.items l.met.items
