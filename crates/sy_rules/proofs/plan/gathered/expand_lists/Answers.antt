use Rattle.std.proofs.Common.{◌≡◌, ◌+◌, List, [], drop, length, map, sym, ap, ◌∙◌, subst}
use Rattle.std.proofs.lemmas.List.{length-map}
use Rattle.std.proofs.lemmas.Result.{err_from_is_err_and}
use Rattle.sy_rules.specs.check.ScriptFaults.{heads_of}
use Rattle.sy_rules.specs.declared.lists.statement.Statement.{Statement}
use Rattle.sy_rules.specs.internal.Loading.{faults_of_its_lists}
use Rattle.sy_rules.specs.internal.Numbering.{AreSingles}
use Rattle.sy_rules.specs.internal.TableSizes.{head}
use Rattle.sy_rules.specs.items.Outline.{placed_items}
use Rattle.sy_rules.specs.PlanValue.{lines_of}
use Rattle.sy_rules.specs.internal.Tables.{lines_of_tables}
use Rattle.sy_rules.proofs.lemmas.plan.Loads.{length-heads, none_of_both, same_answer, same_faults}
use Rattle.sy_rules.proofs.plan.gathered.expand_lists.Goals as goal

pub plan_tables-requires : goal.plan_tables-requires
plan_tables-requires c =
    let heads = ap (map head) c.as_slice-2.ensures.value ∙ (c.in-Ok-heads_of_lists.ensures ∙ ap heads_of c.requires.placed) in
    let rulesets = c.args.gathered.now.rulesets.items in
    let long : length c.as_slice-2.result.now ≡ length rulesets + 1 =
    sym (length-map c.as_slice-2.result.now head) ∙ (ap length heads ∙ (length-heads (placed_items c.args.script.now) ∙ ap (λ rs. length rs + 1) (sym c.requires.gathered.rulesets))) in
    let tables = ap (λ ts. map (λ t. t.items) ts) c.as_slice.ensures.value in
    let singles = subst (λ (ts : List (List Statement)). AreSingles (drop (length rulesets + 1) ts)) (sym tables) c.in-Ok.ensures.singles in
    subst (λ n. AreSingles (drop n (map (λ t. t.items) c.as_slice.result.now))) (sym long) singles

pub returns-in_err-tables-clause-err : goal.returns-in_err-tables-clause-err
returns-in_err-tables-clause-err c =
    let p = err_from_is_err_and c.from_residual.result c.from_residual.ensures.1 in
    let lines = ap (λ ts. lines_of_tables [] (map (λ t. t.items) ts)) c.as_slice.ensures.value ∙ c.in-Ok.ensures.lines [] in
    let heads = ap (map head) c.as_slice-2.ensures.value ∙ (c.in-Ok-heads_of_lists.ensures ∙ ap heads_of c.requires.placed) in
    rw (p.1, p.2) (same_answer _ (faults_of_its_lists c.args.script.now) _ (same_faults _ (lines_of c.args.script.now []) _ _ lines heads) (c.in_err-tables.ensures.err []))

pub returns-in-Ok-occurrences_of_lists-clause-ok : goal.returns-in-Ok-occurrences_of_lists-clause-ok
returns-in-Ok-occurrences_of_lists-clause-ok c =
    let lines = ap (λ ts. lines_of_tables [] (map (λ t. t.items) ts)) c.as_slice.ensures.value ∙ c.in-Ok.ensures.lines [] in
    let heads = ap (map head) c.as_slice-2.ensures.value ∙ (c.in-Ok-heads_of_lists.ensures ∙ ap heads_of c.requires.placed) in
    none_of_both _ (faults_of_its_lists c.args.script.now) (same_faults _ (lines_of c.args.script.now []) _ _ lines heads) (c.in_ok-tables.ensures.ok [])
