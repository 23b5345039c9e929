-- The way to a loaded plan, over plain variables.
use Rattle.std.proofs.Common.{◌≡◌, ℕ, suc, ◌+◌, ◌<◌, ◌∷◌, inl, inr, List, [], ◌++◌, Option, length, slice_get, refl, sym, ap, ◌∙◌, subst, arith}
use Rattle.std.specs.List.{cons_option, filter_map}
use Rattle.sy_script.specs.declared.tree.Span.{Span}
use Rattle.sy_select.specs.declared.condition.Test.{Test}
use Rattle.sy_select.specs.Truth.{Formula}
use Rattle.sy_rules.specs.declared.fault.PlanFault.{PlanFault}
use Rattle.sy_rules.specs.declared.parameters.objects.ActionParameters.{ActionParameters}
use Rattle.sy_rules.specs.declared.parameters.objects.RulesetParameters.{RulesetParameters}
use Rattle.sy_rules.specs.declared.lists.statement.Statement.{Statement}
use Rattle.sy_rules.specs.Faults.{IsAnswered}
use Rattle.sy_rules.specs.lists.Lines.{Lines, lists_of, body_of}
use Rattle.sy_rules.specs.PlanValue.{Listed, listed_from}
use Rattle.sy_rules.specs.check.ScriptFaults.{Head, faults_of_lists, head_at, head_of, heads_of}
use Rattle.sy_rules.specs.items.Outline.{Item, Placed, items_of}
use Rattle.sy_rules.specs.parts.Plans.{ruleset_at, rulesets_of}
use Rattle.sy_rules.specs.lists.Texts.{Part}
use Rattle.sy_rules.specs.lists.Sets.{Bits}
use Rattle.sy_rules.specs.lists.Body.{Body}
use Rattle.sy_rules.specs.internal.Tables.{lines_of_tables}
use Rattle.sy_rules.specs.Whole.{body_in}
use Rattle.sy_rules.proofs.lemmas.parts.Listed.{length-listed_from, body_listed_at}

-- a set of occurrences of a list by the tests and tables of a plan is one of its text in the plan
pub bits_at : (P : Body → ℕ → Type 0) (lists : List Listed) (tests tests2 : List (Formula Test)) (tables tables2 : List (List Statement)) (queues : List (Option ℕ)) (l set : ℕ)
    → listed_from (lines_of_tables tests tables) 0 queues ≡ lists → l < length lists → tests2 ≡ tests → tables2 ≡ tables
    → Bits (P (body_of (lines_of_tables tests2 tables2) l)) set → Bits (P (body_in (slice_get lists l))) set
bits_at P lists tests tests2 tables tables2 queues l set e there f g bits =
    let long = ap length e in
    let same = length-listed_from (lines_of_tables tests tables) 0 queues in
    let text = sym (ap (λ ls. body_in (slice_get ls l)) e) ∙ body_listed_at (lines_of_tables tests tables) 0 queues l l (omega arith) (omega arith) in
    subst (λ s. Bits (P s) set) (ap (λ ts. body_of (lines_of_tables ts tables2) l) f ∙ (ap (λ tb. body_of (lines_of_tables tests tb) l) g ∙ sym text)) bits

pub same_lists : (rulesets rulesets2 : List RulesetParameters) (actions actions2 : List ActionParameters) (tests : List (Formula Test)) (ps : List Part) → rulesets ≡ rulesets2 → actions ≡ actions2 → lists_of (record { rulesets = rulesets; actions = actions; tests = tests }) ps ≡ lists_of (record { rulesets = rulesets2; actions = actions2; tests = tests }) ps
same_lists rulesets rulesets2 actions actions2 tests ps e f =
    ap (λ rs. lists_of (record { rulesets = rs; actions = actions; tests = tests }) ps) e ∙ ap (λ xs. lists_of (record { rulesets = rulesets2; actions = xs; tests = tests }) ps) f

-- the faults of the same lists by the same heads
pub same_faults : (lists lists2 : List Lines) (heads heads2 : List Head) → lists ≡ lists2 → heads ≡ heads2 → faults_of_lists lists 0 heads ≡ faults_of_lists lists2 0 heads2
same_faults lists lists2 heads heads2 e f = ap (λ l. faults_of_lists l 0 heads) e ∙ ap (λ h. faults_of_lists lists2 0 h) f

-- There are as many heads as rulesets, with the default one.
one_head_each : (span : Span) (x : Item) (heads : List Head) (rulesets : List RulesetParameters) → length heads ≡ length rulesets → length (cons_option (head_at span x) heads) ≡ length (cons_option (ruleset_at x) rulesets)
one_head_each span (Item.Ruleset ps) heads rulesets e = ap suc e
one_head_each span (Item.Object found ps) heads rulesets e = e
one_head_each span (Item.Action ps) heads rulesets e = e
one_head_each span (Item.Call name) heads rulesets e = e
one_head_each span (Item.Test test) heads rulesets e = e

as_many_heads : (all : List Placed) → length (filter_map head_of all) ≡ length (rulesets_of (items_of all))
as_many_heads [] = refl
as_many_heads (x ∷ all) = one_head_each x.span x.item (filter_map head_of all) (rulesets_of (items_of all)) (as_many_heads all)

pub length-heads : (all : List Placed) → length (heads_of all) ≡ length (rulesets_of (items_of all)) + 1
length-heads all = omega (arith, as_many_heads all)

pub same_answer : (faults faults2 : List PlanFault) (f : PlanFault) → faults ≡ faults2 → IsAnswered faults f → IsAnswered faults2 f
same_answer faults faults2 f e h = subst (λ fs. IsAnswered fs f) e h

pub none_of_both : (faults faults2 : List PlanFault) → faults ≡ faults2 → faults ≡ [] → faults2 ≡ []
none_of_both faults faults2 e h = sym e ∙ h

-- the first fault is the same where more stand after
pub answered_front : (xs ys zs : List PlanFault) (f : PlanFault) → IsAnswered (xs ++ ys) f → IsAnswered (xs ++ (ys ++ zs)) f
answered_front [] [] zs f (inl e) = inl e
answered_front [] [] zs f (inr e) = cc
answered_front [] (y ∷ ys) zs f h = h
answered_front (x ∷ xs) ys zs f h = h
