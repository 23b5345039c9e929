use Rattle.std.proofs.Common.{◌≡◌, map, drop}
use Rattle.sy_rules.specs.internal.TableSizes.{faults_by, head}
use Rattle.sy_rules.proofs.lists.sizes.check_sizes.Given as goal

-- nothing is wrong with the lists so far
abbrev pub invariant-loop-list : goal.invariant-loop-list
invariant-loop-list l = faults_by l.sizes l.list (map head (drop l.list l.heads)) ≡ faults_by l.sizes 0 (map head l.heads)
