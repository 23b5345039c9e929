use Rattle.std.proofs.Common.{◌≡◌, ◌++◌, drop, map}
use Rattle.sy_diff.specs.Changes.{lost_archives}
use Rattle.sy_diff.specs.Comparisons.{archives_in}
use Rattle.sy_diff.proofs.comparison.all_lost_archives.Given as goal

abbrev pub invariant-loop-class : goal.invariant-loop-class
invariant-loop-class l =
    map archives_in l.lost.items ++ map (λ class. (class, lost_archives l.change class)) (drop l.class-index l.class-items)
    ≡ map (λ class. (class, lost_archives l.change class)) l.class-items
