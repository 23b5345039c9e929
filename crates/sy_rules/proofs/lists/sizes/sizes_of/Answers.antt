use Rattle.std.proofs.Common.{◌≡◌, ℕ, suc, ◌+◌, List, map, ap, ◌∙◌, subst, arith}
use Rattle.sy_rules.specs.declared.lists.sizes.Size.{Size}
use Rattle.sy_rules.specs.internal.TableSizes.{AreSizes, size_of, size_at, empty}
use Rattle.sy_rules.proofs.lemmas.lists.SizeSums.{first_round, next_round}
use Rattle.sy_rules.proofs.lists.sizes.sizes_of.Goals as goal

pub loop-depth-init : goal.loop-depth-init
loop-depth-init c = first_round (map (λ table. table.items) c.args.tables.now) c.in_ok-sizes.sizes.items c.in_ok-sizes.ensures

pub loop-depth-preserved : goal.loop-depth-preserved
loop-depth-preserved c =
    let tables = map (λ table. table.items) c.args.tables.now in
    let made = c.in_ok-sizes-2.ensures ∙ ap (λ (s : List Size). map (size_of (size_at s empty)) tables) c.as_slice.ensures.value in
    let one_more : suc c.loop-depth._depth ≡ c.loop-depth._depth + 1 = omega arith in
    subst (λ (n : ℕ). AreSizes tables n c.in_ok-sizes-2.sizes.items) one_more
    (next_round tables c.loop-depth._depth c.loop-depth.sizes.items c.in_ok-sizes-2.sizes.items c.loop-depth.invariant made)

pub returns : goal.returns
returns c =
    let tables = map (λ table. table.items) c.args.tables.now in
    let all : c.loop-depth._depth ≡ 16 = omega arith in
    subst (λ (n : ℕ). AreSizes tables n c.loop-depth.sizes.items) all c.loop-depth.invariant
