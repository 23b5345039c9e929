use Rattle.std.proofs.Common.{◌≡◌, ◌++◌, drop, map}
use Rattle.sy_diff.specs.Changes.{new_classes}
use Rattle.sy_diff.specs.Comparisons.{with_classes}
use Rattle.sy_diff.proofs.comparison.new_findings.Given as goal

abbrev pub invariant-loop-instance : goal.invariant-loop-instance
invariant-loop-instance l =
    map (with_classes (λ it. it.classes.items)) l.found.items ++ map (with_classes (new_classes l.change l.before)) (drop l.instance-index l.after)
    ≡ map (with_classes (new_classes l.change l.before)) l.after
