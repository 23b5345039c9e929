-- Which faults scripts have: the first that is found, and none where none is found. A script without faults has a plan.
use Rattle.std.proofs.Common.{◌≡◌, ◌≢◌, ℕ, zero, suc, ◌+◌, ◌≤◌, inl, inr, ◌⊎◌, Bool, true, false, ◌||◌, nat_lt, List, [], ◌∷◌, ◌++◌, Some, Result, Ok, Err, IfErr, IfOk, OnOk, codes, filter_map, slice_get, refl, sym, ap, ◌∙◌, arith}
use Rattle.std.proofs.lemmas.Bool.{ltb-false, ltb-true, or_cases}
use Rattle.std.proofs.lemmas.List.{map-append}
use Rattle.sy_script.specs.declared.tree.ObjectKind.TheVariants as object
use Rattle.sy_script.specs.declared.tree.Script.{Script}
use Rattle.sy_select.specs.declared.condition.Test.{Test}
use Rattle.sy_select.specs.Trees.{written}
use Rattle.sy_select.specs.Truth.{Formula}
use Rattle.sy_select.proofs.FoundExpr.{some_meaning}
use Rattle.sy_rules.specs.Limits.{CALL_DEPTH, OCCURRENCES, STATEMENTS, WORKERS}
use Rattle.sy_rules.specs.declared.fault.FaultCode.TheVariants as code
use Rattle.sy_rules.specs.declared.fault.PlanFault.{PlanFault}
use Rattle.sy_rules.specs.declared.items.fault.ItemFault.{ItemFault}
use Rattle.sy_rules.specs.Faults.{IsAnswered, fault_at, first, no_memory, nowhere, when}
use Rattle.sy_rules.specs.check.FaultsThere.{CallsTooDeep, HasCleanItems, HasFault, HasItemFault, HasNoFault, IsListOf, StandsIn, lists_in, worker_count}
use Rattle.sy_rules.specs.items.ItemFaults.{object_faults}
use Rattle.sy_rules.specs.lists.Lines.{Lines, is_deeper, statements_of, body_of}
use Rattle.sy_rules.specs.items.Outline.{Item, Placed, items, items_of, placed_items}
use Rattle.sy_rules.specs.PlanValue.{AreExprs, HasParts, IsGiven, IsPlan, Plan, lines_of, test_of_item}
use Rattle.sy_rules.specs.check.ScriptFaults.{Head, faults_among, faults_in_text, faults_of, faults_of_lists, heads_of, list_faults, too_many_workers}
use Rattle.sy_rules.specs.internal.Checking.{faults_after}
use Rattle.sy_rules.specs.lists.Body as body
use Rattle.sy_rules.proofs.lemmas.check.AmongLaws.{first_of, first_when, move, none_when}
use Rattle.sy_rules.proofs.lemmas.lists.CallLaws.{chain_of, deep_by}
use Rattle.sy_rules.proofs.lemmas.check.CleanItems.{few_workers}
use Rattle.sy_rules.proofs.lemmas.parameters.Fits.{no_back, no_front}
use Rattle.sy_rules.proofs.lemmas.parts.GivenPlans.{has_parts, is_given}
use Rattle.sy_rules.proofs.lemmas.check.ItemsRefuted.{item_refuted}
use Rattle.sy_rules.proofs.lemmas.check.ItemsThere.{behind_there, none_in_text}
use Rattle.sy_rules.proofs.lemmas.check.TestFaultLaws.{tree_clean}
use Rattle.sy_rules.proofs.lemmas.plan.WholePlans.{plan_from}

-- ---- lists by their numbers

record Listed (lists : List Lines) (number : ℕ) (heads : List Head) (f : PlanFault) : Type 0 where
  place : ℕ
  head : Head
  headed : slice_get heads place ≡ Some head
  found : first (list_faults lists head (number + place)) ≡ Some f

list_found : (lists : List Lines) (number : ℕ) (heads : List Head) (f : PlanFault) → first (faults_of_lists lists number heads) ≡ Some f → Listed lists number heads f
list_found lists number [] f e = absurd cc
list_found lists number (head ∷ heads) f e = elim (first_of (list_faults lists head number) (faults_of_lists lists (number + 1) heads) f e) [
  | inl own ↦
      let same : number + 0 ≡ number = omega arith in
      record { place = 0; head = head; headed = refl; found = rw same own }
  | inr later ↦
      let r = list_found lists (number + 1) heads f later.1 in
      let same : number + suc r.place ≡ (number + 1) + r.place = omega arith in
      record { place = suc r.place; head = r.head; headed = r.headed; found = rw same r.found }
]

list_clean : (lists : List Lines) (number : ℕ) (heads : List Head) (place : ℕ) (head : Head) → slice_get heads place ≡ Some head → faults_of_lists lists number heads ≡ [] → list_faults lists head (number + place) ≡ []
list_clean lists number [] place head is e = absurd cc
list_clean lists number (h ∷ heads) zero head is e =
    let same : number + 0 ≡ number = omega arith in
    let which : h ≡ head = cc in
    rw (same, ← which) (no_front (list_faults lists h number) (faults_of_lists lists (number + 1) heads) e)
list_clean lists number (h ∷ heads) (suc place) head is e =
    let same : number + suc place ≡ (number + 1) + place = omega arith in
    rw same (list_clean lists (number + 1) heads place head is (no_back (list_faults lists h number) (faults_of_lists lists (number + 1) heads) e))

module _ (script : Script) where
  abbrev found_items : List Item
  found_items = items script

  abbrev heads : List Head
  heads = heads_of (placed_items script)

  abbrev too_deep : Head → ℕ → List PlanFault
  too_deep head l = when (is_deeper (lists_in script) CALL_DEPTH l) (fault_at head.span code.CallDepth head.name)

  abbrev too_large : Head → ℕ → List PlanFault
  too_large head l = when (nat_lt STATEMENTS (statements_of (lists_in script) l) || nat_lt OCCURRENCES (body.count (body_of (lists_in script) l))) (fault_at head.span code.TooManyDeeds head.name)

  abbrev in_items : List PlanFault
  in_items = faults_in_text found_items [] (placed_items script)

  abbrev in_lists : List PlanFault
  in_lists = faults_of_lists (lists_in script) 0 heads

  refuted_in : (before later : List Placed) (x : Placed) (f : ItemFault) → faults_after found_items [] found_items ≡ [] → StandsIn script before x later → HasItemFault found_items (items_of before) x.item f → ⊥
  refuted_in before later x f e split is = item_refuted found_items e (items_of before) (items_of later) x.item f (ap items_of split ∙ map-append (λ (y : Placed). y.item) before (x ∷ later)) is

  clean_as_found : in_items ≡ [] → HasCleanItems script
  clean_as_found e before later x f split is = refuted_in before later x f (none_in_text found_items [] (placed_items script) e) split is

  not_deep : (l : ℕ) (b : Bool) (g : PlanFault) → is_deeper (lists_in script) CALL_DEPTH l ≡ b → when b g ≡ [] → CallsTooDeep script l → ⊥
  not_deep l b g is e chain =
      none_when b g e (sym is ∙ deep_by (lists_in script) CALL_DEPTH l chain.0 chain.1 chain.2)

  -- ---- what is found is there

  list_there : (l : ℕ) (head : Head) (f : PlanFault) → HasCleanItems script → IsListOf script head l → first (list_faults (lists_in script) head l) ≡ Some f → HasFault script f
  list_there l head f right is e = elim (first_of (too_deep head l) (too_large head l) f e) [
    | inl deep ↦
        let w = first_when (is_deeper (lists_in script) CALL_DEPTH l) (fault_at head.span code.CallDepth head.name) f deep in
        move (HasFault script) w.1 (HasFault.call_depth head l right is (chain_of (lists_in script) CALL_DEPTH l w.0))
    | inr large ↦
        let flat = not_deep l (is_deeper (lists_in script) CALL_DEPTH l) (fault_at head.span code.CallDepth head.name) refl large.0 in
        let w = first_when (nat_lt STATEMENTS (statements_of (lists_in script) l) || nat_lt OCCURRENCES (body.count (body_of (lists_in script) l))) (fault_at head.span code.TooManyDeeds head.name) f large.1 in
        move (HasFault script) w.1 (elim (or_cases (nat_lt STATEMENTS (statements_of (lists_in script) l)) (nat_lt OCCURRENCES (body.count (body_of (lists_in script) l))) w.0) [
          | inl a ↦ HasFault.statements head l right is flat (ltb-true STATEMENTS (statements_of (lists_in script) l) a)
          | inr b ↦ HasFault.occurrences head l right is flat (ltb-true OCCURRENCES (body.count (body_of (lists_in script) l)) b)
        ])
  ]

  lists_there : (f : PlanFault) → HasCleanItems script → first in_lists ≡ Some f → HasFault script f
  lists_there f right e =
      let r = list_found (lists_in script) 0 heads f e in
      let same : 0 + r.place ≡ r.place = omega arith in
      list_there r.place r.head f right r.headed (rw same at r.found)

  workers_there : (f : PlanFault) → HasCleanItems script → first (too_many_workers found_items) ≡ Some f → HasFault script f
  workers_there f right e =
      let w = first_when (nat_lt WORKERS (worker_count script)) (fault_at nowhere code.Range (codes "queue.workerThreads")) f e in
      move (HasFault script) w.1 (HasFault.workers right (ltb-true WORKERS (worker_count script) w.0))

  item_there : (f : PlanFault) → first in_items ≡ Some f → HasFault script f
  item_there f e =
      let i = behind_there (placed_items script) [] (placed_items script) f refl tt e in
      move (HasFault script) i.same (HasFault.item i.before i.later i.x i.own i.split i.there)

  pub first_there : (f : PlanFault) → first (faults_of script) ≡ Some f → HasFault script f
  first_there f e = elim (first_of in_items (too_many_workers found_items ++ in_lists) f e) [
    | inl own ↦ item_there f own
    | inr rest ↦ elim (first_of (too_many_workers found_items) in_lists f rest.1) [
      | inl many ↦ workers_there f (clean_as_found rest.0) many
      | inr lists ↦ lists_there f (clean_as_found rest.0) lists.1
    ]
  ]

  -- ---- where nothing is found, nothing is there

  module _ (clean : faults_of script ≡ []) where
    clean_items : faults_after found_items [] found_items ≡ []
    clean_items = none_in_text found_items [] (placed_items script) (no_front in_items (too_many_workers found_items ++ in_lists) clean)

    clean_rest : too_many_workers found_items ++ in_lists ≡ []
    clean_rest = no_back in_items (too_many_workers found_items ++ in_lists) clean

    clean_list : (head : Head) (l : ℕ) → IsListOf script head l → too_deep head l ++ too_large head l ≡ []
    clean_list head l is =
        let same : 0 + l ≡ l = omega arith in
        rw same at (list_clean (lists_in script) 0 heads l head is (no_back (too_many_workers found_items) in_lists clean_rest))

    small_list : (head : Head) (l : ℕ) → IsListOf script head l → (statements_of (lists_in script) l ≤ STATEMENTS) × (body.count (body_of (lists_in script) l) ≤ OCCURRENCES)
    small_list head l is = smaller (nat_lt STATEMENTS (statements_of (lists_in script) l)) (nat_lt OCCURRENCES (body.count (body_of (lists_in script) l))) refl refl (no_back (too_deep head l) (too_large head l) (clean_list head l is))
      where
        smaller : (a b : Bool) → nat_lt STATEMENTS (statements_of (lists_in script) l) ≡ a → nat_lt OCCURRENCES (body.count (body_of (lists_in script) l)) ≡ b → when (a || b) (fault_at head.span code.TooManyDeeds head.name) ≡ []
            → (statements_of (lists_in script) l ≤ STATEMENTS) × (body.count (body_of (lists_in script) l) ≤ OCCURRENCES)
        smaller true b p q e = absurd cc
        smaller false true p q e = absurd cc
        smaller false false p q e = (ltb-false STATEMENTS (statements_of (lists_in script) l) p, ltb-false OCCURRENCES (body.count (body_of (lists_in script) l)) q)

    pub fault_refuted : (f : PlanFault) → HasFault script f → ⊥
    fault_refuted f (HasFault.item before later x g split is) = refuted_in before later x g clean_items split is
    fault_refuted f (HasFault.workers right many) = absurd (omega (arith, many, few_workers found_items (no_front (too_many_workers found_items) in_lists clean_rest)))
    fault_refuted f (HasFault.call_depth head l right is deep) =
        not_deep l (is_deeper (lists_in script) CALL_DEPTH l) (fault_at head.span code.CallDepth head.name) refl (no_front (too_deep head l) (too_large head l) (clean_list head l is)) deep
    fault_refuted f (HasFault.statements head l right is flat many) = absurd (omega (arith, many, (small_list head l is).0))
    fault_refuted f (HasFault.occurrences head l right is flat many) = absurd (omega (arith, many, (small_list head l is).1))

-- ---- a script without faults has a plan

abbrev Exprs : List Item → Type 0
Exprs xs = (tests : List (Formula Test)) × AreExprs (filter_map test_of_item xs) tests

behind : (all before later : List Item) (x : Item) → faults_after all before (x ∷ later) ≡ [] → faults_after all (before ++ x ∷ []) later ≡ []
behind all before later x e =
    let rest = faults_after all (before ++ x ∷ []) later in
    no_back (faults_among all before x) rest (no_back (object_faults x) (faults_among all before x ++ rest) e)

next_exprs : (all before later : List Item) → faults_after all before later ≡ [] → Exprs later
next_exprs all before [] e = ([], tt)
next_exprs all before (Item.Test tree ∷ later) e =
    let rest = next_exprs all (before ++ Item.Test tree ∷ []) later (behind all before later (Item.Test tree) e) in
    let right = tree_clean tree (no_front (faults_among all before (Item.Test tree)) (faults_after all (before ++ Item.Test tree ∷ []) later) e) in
    let x = some_meaning (written tree) right in
    (x.0 ∷ rest.0, (x.1, rest.1))
next_exprs all before (Item.Object object.Input ps ∷ later) e = next_exprs all (before ++ Item.Object object.Input ps ∷ []) later (behind all before later (Item.Object object.Input ps) e)
next_exprs all before (Item.Object object.MainQueue ps ∷ later) e = next_exprs all (before ++ Item.Object object.MainQueue ps ∷ []) later (behind all before later (Item.Object object.MainQueue ps) e)
next_exprs all before (Item.Object object.Module ps ∷ later) e = next_exprs all (before ++ Item.Object object.Module ps ∷ []) later (behind all before later (Item.Object object.Module ps) e)
next_exprs all before (Item.Object object.Global ps ∷ later) e = next_exprs all (before ++ Item.Object object.Global ps ∷ []) later (behind all before later (Item.Object object.Global ps) e)
next_exprs all before (Item.Ruleset ps ∷ later) e = next_exprs all (before ++ Item.Ruleset ps ∷ []) later (behind all before later (Item.Ruleset ps) e)
next_exprs all before (Item.Action ps ∷ later) e = next_exprs all (before ++ Item.Action ps ∷ []) later (behind all before later (Item.Action ps) e)
next_exprs all before (Item.Call name ∷ later) e = next_exprs all (before ++ Item.Call name ∷ []) later (behind all before later (Item.Call name) e)

pub parts_of : (script : Script) → faults_of script ≡ [] → (plan : Plan) × HasParts script plan
parts_of script clean =
    let x = next_exprs (items script) [] (items script) (clean_items script clean) in
    (plan_from (items script) (lines_of script x.0), record { tests = x.0; are_tests = x.1; inputs = refl; queues = refl; workers = refl; actions = refl; lists = refl; rulesets = refl; names = refl })

pub plan_of : (script : Script) → faults_of script ≡ [] → (plan : Plan) × IsPlan script plan
plan_of script clean = let p = parts_of script clean in (p.0, record { clean = fault_refuted script clean; given = is_given script p.0 (clean_items script clean) p.1 })

-- where no fault is there, none is found
none_found : (script : Script) (found : List PlanFault) → faults_of script ≡ found → HasNoFault script → faults_of script ≡ []
none_found script [] e none = e
none_found script (f ∷ later) e none = absurd (none f (first_there script f (ap first e)))

pub found_where_there : (script : Script) (f : PlanFault) → HasFault script f → faults_of script ≢ []
found_where_there script f is e = fault_refuted script e f is

pub nothing_found : (script : Script) → HasNoFault script → faults_of script ≡ []
nothing_found script none = none_found script (faults_of script) refl none

-- the parts of the plan of a script, listed item after item
pub listed_parts : (script : Script) (plan : Plan) → IsPlan script plan → HasParts script plan
listed_parts script plan is = has_parts script plan (clean_items script (nothing_found script is.clean)) is.given

pub parts_listed : (script : Script) (plan : Plan) → HasNoFault script → IsGiven script plan → HasParts script plan
parts_listed script plan none g = has_parts script plan (clean_items script (nothing_found script none)) g

pub parts_given : (script : Script) (plan : Plan) → HasNoFault script → HasParts script plan → IsGiven script plan
parts_given script plan none p = is_given script plan (clean_items script (nothing_found script none)) p

pub plan_without_faults : (script : Script) → HasNoFault script → (plan : Plan) × IsPlan script plan
plan_without_faults script none = plan_of script (nothing_found script none)

pub loaded : {E : Type 0} (script : Script) (r : Result Plan E) → IfOk r (λ plan. HasParts script plan) → OnOk r (faults_of script ≡ []) → IfOk r (λ plan. IsPlan script plan)
loaded script (Ok plan) p clean = record { clean = fault_refuted script clean; given = is_given script plan (clean_items script clean) p }
loaded script (Err e) p clean = tt

-- ---- answers

pub answer_there : (script : Script) (f : PlanFault) → IsAnswered (faults_of script) f → (f ≡ no_memory) ⊎ HasFault script f
answer_there script f (inl e) = inl e
answer_there script f (inr e) = inr (first_there script f e)

pub refused_for_memory : {T : Type 0} (script : Script) (r : Result T PlanFault) → IfErr r (λ f. IsAnswered (faults_of script) f) → IfErr r (λ f. HasNoFault script → f ≡ no_memory)
refused_for_memory script (Ok x) e = tt
refused_for_memory script (Err f) e = λ none. elim (answer_there script f e) [
  | inl out ↦ out
  | inr is ↦ absurd (none f is)
]

pub refused_there : {T : Type 0} (script : Script) (r : Result T PlanFault) → IfErr r (λ f. IsAnswered (faults_of script) f) → IfErr r (λ f. (f ≡ no_memory) ⊎ HasFault script f)
refused_there script (Ok x) e = tt
refused_there script (Err f) e = answer_there script f e
