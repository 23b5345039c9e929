use Rattle.std.proofs.Common.{List, [], drop, map, sym, subst}
use Rattle.std.proofs.lemmas.List.{length-map}
use Rattle.sy_rules.specs.declared.lists.sizes.Size.{Size}
use Rattle.sy_rules.specs.internal.Numbering.{count_in, AreFew, AreSingles}
use Rattle.sy_rules.specs.internal.TableSizes.{head}
use Rattle.sy_rules.specs.internal.Tables.{AreNumbered, table_at}
use Rattle.sy_rules.proofs.lemmas.lists.PlanTables.{plan_fits, are_few_numbers, are_tables}
use Rattle.sy_rules.proofs.lists.plan_tables.plan_tables.Goals as goal

pub number_lists-requires : goal.number_lists-requires
number_lists-requires c =
    let tables = map (λ table. table.items) c.args.tables.now in
    let heads = map head c.args.heads.now in
    let singles = subst (λ n. AreSingles (drop n tables)) (sym (length-map c.args.heads.now head)) c.requires in
    let fit = plan_fits [] tables heads (c.in_ok-sizes.ensures.ok []) singles in
    subst (λ (s : List Size). AreFew (count_in s) tables) (sym c.as_slice.ensures.value) (are_few_numbers [] tables c.in_ok-sizes.sizes.items c.in_ok-sizes.ensures.sizes fit)

pub returns-in-Ok-clause-found : goal.returns-in-Ok-clause-found
returns-in-Ok-clause-found c = λ tests.
    let tables = map (λ table. table.items) c.args.tables.now in
    let heads = map head c.args.heads.now in
    let singles = subst (λ n. AreSingles (drop n tables)) (sym (length-map c.args.heads.now head)) c.requires in
    are_tables tests tables c.in_ok-sizes.sizes.items c.in_ok-sizes.ensures.sizes (plan_fits tests tables heads (c.in_ok-sizes.ensures.ok tests) singles)
    c.in-Ok.found.items (c.in-Ok.ensures.same tests)
    (λ l. subst (λ (s : List Size). AreNumbered (count_in s) 0 (table_at c.in-Ok.found.items l)) c.as_slice.ensures.value (c.in-Ok.ensures.numbered l))
