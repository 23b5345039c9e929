use Rattle.std.proofs.Common.{map}
use Rattle.sy_rules.specs.internal.TableSizes.{AreSizes}
use Rattle.sy_rules.proofs.lists.sizes.sizes_of.Given as goal

abbrev pub invariant-loop-depth : goal.invariant-loop-depth
invariant-loop-depth l = AreSizes (map (λ table. table.items) l.tables) l._depth l.sizes.items
