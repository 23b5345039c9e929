use Rattle.std.proofs.Common.{◌≡◌, ◌++◌, length, map}
use Rattle.sy_rules.specs.internal.Numbering.{listed_at}
use Rattle.sy_rules.specs.internal.TableSizes.{listed_in}
use Rattle.sy_rules.proofs.lists.numbering.listed_round.Given as goal

abbrev pub invariant-loop-rest : goal.invariant-loop-rest
invariant-loop-rest l =
    let listed = listed_in (listed_at (map (λ k. k.items) l.inner)) in
    map (λ k. k.items) l.found.items ++ map listed l.rest ≡ map listed l.tables

abbrev pub decreases-loop-rest : goal.decreases-loop-rest
decreases-loop-rest l = length l.rest
