use Rattle.std.proofs.Common.{◌≡◌, ℕ, suc, ◌+◌, map, ap, ◌∙◌, subst, arith}
use Rattle.sy_rules.specs.internal.Numbering.{listed_at}
use Rattle.sy_rules.specs.internal.TableSizes.{listed_in}
use Rattle.sy_rules.proofs.lemmas.lists.Numbering.{AreListed, listed_all, listed_next, listed_none}
use Rattle.sy_rules.proofs.lists.numbering.list_occurrences.Goals as goal

pub loop-depth-init : goal.loop-depth-init
loop-depth-init c = listed_none c.args.tables.now _ (ap (map (λ k. k.items)) c.new-found.ensures.items)

pub loop-depth-preserved : goal.loop-depth-preserved
loop-depth-preserved c =
    let before = map (λ k. k.items) c.loop-depth.found.items in
    let after = map (λ k. k.items) c.in_ok-found.found.items in
    let made = c.in_ok-found.ensures ∙ ap (λ xs. map (listed_in (listed_at (map (λ k. k.items) xs))) c.args.tables.now) c.as_slice.ensures.value in
    let one_more : suc c.loop-depth._depth ≡ c.loop-depth._depth + 1 = omega arith in
    subst (λ (n : ℕ). AreListed c.args.tables.now n after) one_more (listed_next c.args.tables.now c.loop-depth._depth before after c.loop-depth.invariant made)

pub returns : goal.returns
returns c = λ tests l. listed_all tests c.args.tables.now c.loop-depth._depth (map (λ k. k.items) c.loop-depth.found.items) (omega arith) c.loop-depth.invariant l
