-- Both sets of a walk by verdicts at once, over tables.
use Rattle.std.proofs.Common.{◌≡◌, ℕ, zero, suc, ◌-◌, ◌≢◌, false, List, [], ◌∷◌, take, drop, refl, sym, ap, ◌∙◌, arith}
use Rattle.sy_wire.specs.declared.class.Class.{Class}
use Rattle.sy_select.specs.declared.condition.Test.{Test}
use Rattle.sy_select.specs.declared.verdict.Verdict.{Verdict}
use Rattle.sy_select.specs.declared.verdict.Verdict.TheVariants as verdicts
use Rattle.sy_select.specs.Truth.{Formula}
use Rattle.sy_rules.specs.declared.lists.statement.Statement.{Statement}
use Rattle.sy_rules.specs.declared.lists.statement.Statement.TheVariants as statement
use Rattle.sy_rules.specs.declared.lists.walk.Reached.{Reached}
use Rattle.sy_rules.specs.declared.lists.flow.Flow.{Flow}
use Rattle.sy_rules.specs.internal.FlowWalk.{both, flow_followed_by, flow_of_list, flow_of_statements, flow_take, judged, may_take, must_take}
use Rattle.sy_rules.specs.internal.TableWalk.{nothing}
use Rattle.sy_rules.specs.internal.Tables.{table_at}
use Rattle.sy_rules.proofs.lemmas.lists.TableLaws.{before_nothing, ends, followed_by_both, run_if}

pair : (a b c d : Reached) → a ≡ b → c ≡ d → let x : Flow = record { may = a; must = c } in let y : Flow = record { may = b; must = d } in x ≡ y
pair a b c d e f = ap (λ (r : Reached). record { may = r; must = c }) e ∙ ap (λ (r : Reached). record { may = b; must = r }) f

pub flow_more : (flow next new w rest whole : Flow) → new ≡ flow_followed_by flow next → rest ≡ flow_followed_by next w → flow_followed_by flow rest ≡ whole → flow_followed_by new w ≡ whole
flow_more flow next new w rest whole e f g =
    ap (λ r. flow_followed_by r w) e ∙ pair _ _ _ _ (followed_by_both flow.may next.may w.may) (followed_by_both flow.must next.must w.must) ∙ ap (flow_followed_by flow) (sym f) ∙ g

pub flow_over : (new w whole : Flow) → new.may.goes_on ≡ false → new.must.goes_on ≡ false → flow_followed_by new w ≡ whole → new ≡ whole
flow_over new w whole h g e = sym (pair _ _ _ _ (ends new.may w.may h) (ends new.must w.must g)) ∙ e

pub flow_finish : (flow whole : Flow) → flow_followed_by flow (both nothing) ≡ whole → flow ≡ whole
flow_finish flow whole e = sym (pair _ _ _ _ (before_nothing flow.may) (before_nothing flow.must)) ∙ e

-- a test, its two blocks, and what follows
pub flow_if : (class : Class) (tests : List (Formula Test)) (tables : List (List Statement)) (depth t d o : ℕ) (after done other rest : List Statement) (base : ℕ) (v : Verdict) (block : Flow)
    → v ≡ judged class tests t → done ≡ take d after → other ≡ take o (drop d after) → rest ≡ drop o (drop d after)
    → block ≡ flow_take v (flow_of_statements class tests tables depth done base) (flow_of_statements class tests tables depth other base)
    → flow_of_statements class tests tables depth (statement.If t d o ∷ after) base ≡ flow_followed_by block (flow_of_statements class tests tables depth rest base)
flow_if class tests tables depth t d o after done other rest base v block ev ey en er eb =
    pair _ _ _ _ (run_if (λ test. may_take (judged class tests test)) tables depth t d o after base) (run_if (λ test. must_take (judged class tests test)) tables depth t d o after base)
    ∙ ap (λ w. flow_followed_by w (flow_of_statements class tests tables depth (drop o (drop d after)) base))
    (sym (eb ∙ ap (λ u. flow_take u (flow_of_statements class tests tables depth done base) (flow_of_statements class tests tables depth other base)) ev
    ∙ ap (λ y. flow_take (judged class tests t) (flow_of_statements class tests tables depth y base) (flow_of_statements class tests tables depth other base)) ey
    ∙ ap (λ y. flow_take (judged class tests t) (flow_of_statements class tests tables depth (take d after) base) (flow_of_statements class tests tables depth y base)) en))
    ∙ ap (λ r. flow_followed_by block (flow_of_statements class tests tables depth r base)) (sym er)

-- a test that isn't met, without another block
pub flow_passed : (class : Class) (tests : List (Formula Test)) (tables : List (List Statement)) (depth t d o : ℕ) (after rest : List Statement) (base : ℕ)
    → o ≡ 0 → verdicts.No ≡ judged class tests t → rest ≡ drop d after
    → flow_of_statements class tests tables depth (statement.If t d o ∷ after) base ≡ flow_of_statements class tests tables depth rest base
flow_passed class tests tables depth t d zero after rest base none unmet behind =
    flow_if class tests tables depth t d 0 after (take d after) [] rest base verdicts.No (both nothing) unmet refl refl behind refl
flow_passed class tests tables depth t d (suc o) after rest base none unmet behind = absurd (omega (arith, none))

pub list_is_body : (class : Class) (tests : List (Formula Test)) (tables : List (List Statement)) (depth list base : ℕ) (table : List Statement) → depth ≢ 0 → table ≡ table_at tables list
    → flow_of_statements class tests tables (depth - 1) table base ≡ flow_of_list class tests tables depth list base
list_is_body class tests tables zero list base table some e = absurd (some refl)
list_is_body class tests tables (suc depth) list base table some e =
    let less : suc depth - 1 ≡ depth = omega arith in
    rw (less, e) refl
