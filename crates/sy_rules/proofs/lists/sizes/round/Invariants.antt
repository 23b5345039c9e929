use Rattle.std.proofs.Common.{◌≡◌, ◌++◌, length, map}
use Rattle.sy_rules.specs.internal.TableSizes.{size_of, size_at}
use Rattle.sy_rules.proofs.lists.sizes.round.Given as goal

abbrev pub invariant-loop-rest : goal.invariant-loop-rest
invariant-loop-rest l =
    let sizes = size_of (size_at l.inner l.outside) in
    l.sizes.items ++ map sizes (map (λ table. table.items) l.rest) ≡ map sizes (map (λ table. table.items) l.tables)

abbrev pub decreases-loop-rest : goal.decreases-loop-rest
decreases-loop-rest l = length l.rest
