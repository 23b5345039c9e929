-- The plan of a script without faults keeps what every plan keeps.
use Rattle.std.proofs.Common.{◌≡◌, ℕ, zero, suc, ◌+◌, ◌≤◌, ◌<◌, Bool, true, false, if◌then◌else◌, List, [], ◌∷◌, ◌++◌, length, map, take, slice_get, slice_index_or, Option, Some, None, is_some, unwrap_or, refl, sym, ap, ◌∙◌, arith}
use Rattle.std.proofs.lemmas.List.{length-append, length-map}
use Rattle.std.proofs.lemmas.List.Elements.{All-from_recursion, All-map}
use Rattle.std.specs.List.{All, AllByRecursion}
use Rattle.std.specs.Option.{IfSome}
use Rattle.sy_script.specs.declared.tree.ObjectKind.TheVariants as object
use Rattle.sy_script.specs.declared.tree.Script.{Script}
use Rattle.sy_select.specs.declared.condition.Test.{Test}
use Rattle.sy_select.specs.Truth.{Formula}
use Rattle.sy_rules.specs.declared.parameters.objects.ActionParameters.{ActionParameters}
use Rattle.sy_rules.specs.declared.parameters.objects.InputParameters.{InputParameters}
use Rattle.sy_rules.specs.declared.parameters.settings.QueueParameters.{QueueParameters}
use Rattle.sy_rules.specs.lists.Lines.{Lines, action_has_queue, is_queued_ruleset, list_of_action, queued, statements_of, body_of}
use Rattle.sy_rules.specs.parameters.Objects.{AreInRange, HasPort}
use Rattle.sy_rules.specs.items.Outline.{Item, items}
use Rattle.sy_rules.specs.parts.Plans.{action_name, names_of, own_queue, queued_names, actions_of, rulesets_of, inputs_of, list_names, list_of_input, queues_of, workers_of, is_queued_action, queue_after, ruleset_queues, action_queues, list_queues}
use Rattle.sy_rules.specs.PlanValue.{Plan, action_parts, file_of, input_part, lines_of, listed_from, queue_or_main}
use Rattle.sy_rules.specs.check.ScriptFaults.{too_many_workers}
use Rattle.sy_rules.specs.internal.Checking.{faults_after}
use Rattle.sy_rules.specs.lists.Body.{Body, count, occurrences, size}
use Rattle.sy_rules.specs.lists.Texts.{parts}
use Rattle.sy_rules.specs.Whole as whole
use Rattle.sy_rules.specs.Whole.{IsLed, IsWhole, Leads, queue_for, queue_in, runs_alone}
use Rattle.sy_rules.proofs.lemmas.check.CleanItems.{are_clean, few_inputs, few_rulesets, few_actions, few_workers, queues_of_both}
use Rattle.sy_rules.proofs.lemmas.plan.Different.{names_differ, ports_differ}
use Rattle.sy_rules.proofs.lemmas.plan.Leads.{bodies_all}
use Rattle.sy_rules.proofs.lemmas.plan.Led.{IsInner, alone, found, lists_are_inner, once_listed, own}
use Rattle.sy_rules.proofs.lemmas.parts.GivenLists.{own_list}
use Rattle.sy_rules.proofs.lemmas.parts.Listed.{body_listed_at, length-listed_from}
use Rattle.sy_rules.proofs.lemmas.items.TextItems.{as_many_actions}
use Rattle.sy_rules.proofs.lemmas.lists.BodySizes.{size_at_most}
use Rattle.sy_rules.proofs.lemmas.parts.WholeItems.{Exists, IsBound, inputs_are_bound, list_queues_exist, length-action_parts, length-list_queues, length-ruleset_queues, length-workers_from, queued_at_most, queues_in_range, targets_have_ports, workers_exist}

-- ---- lists that have a queue of their own

abbrev Has : List (Option ℕ) → ℕ → Type 0
Has queues k = is_some (own (slice_get queues k)) ≡ true

has_in_front : (xs ys : List (Option ℕ)) (k : ℕ) → Has xs k → Has (xs ++ ys) k
has_in_front [] ys k h = cc
has_in_front (x ∷ xs) ys zero h = h
has_in_front (x ∷ xs) ys (suc k) h = has_in_front xs ys k h

has_behind : (xs ys : List (Option ℕ)) (k m : ℕ) → m ≡ length xs + k → Has ys k → Has (xs ++ ys) m
has_behind [] ys k m e h =
    let same : m ≡ k = omega (arith, e) in
    rw same h
has_behind (x ∷ xs) ys k zero e h = absurd (omega (arith, e))
has_behind (x ∷ xs) ys k (suc m) e h = has_behind xs ys k m (omega (arith, e)) h

own_listed : (lines : List Lines) (number : ℕ) (queues : List (Option ℕ)) (k : ℕ) → queue_in (slice_get (listed_from lines number queues) k) ≡ own (slice_get queues k)
own_listed lines number [] k = refl
own_listed lines number (q ∷ qs) zero = refl
own_listed lines number (q ∷ qs) (suc k) = own_listed lines (number + 1) qs k

-- an input's queue is its list's own, or else queue 0
or_main : (o : Option (Option ℕ)) → queue_or_main o ≡ unwrap_or (own o) 0
or_main None = refl
or_main (Some None) = refl
or_main (Some (Some queue)) = refl

-- of a ruleset that has one

here : (o : Option QueueParameters) (number : ℕ) → is_some o ≡ true → is_some (if is_some o then Some number else None) ≡ true
here None number h = h
here (Some q) number h = refl

ruleset_has : (number : ℕ) (items : List Item) (place : ℕ) → is_queued_ruleset (slice_get (rulesets_of items) place) ≡ true → Has (ruleset_queues number items) place
ruleset_has number [] place h = cc
ruleset_has number (Item.Ruleset ps ∷ items) zero h = here (own_queue (Item.Ruleset ps)) number h
ruleset_has number (Item.Ruleset ps ∷ items) (suc place) h = ruleset_has (queue_after number (Item.Ruleset ps)) items place h
ruleset_has number (Item.Action ps ∷ items) place h = ruleset_has (queue_after number (Item.Action ps)) items place h
ruleset_has number (Item.Object object.Input ps ∷ items) place h = ruleset_has number items place h
ruleset_has number (Item.Object object.MainQueue ps ∷ items) place h = ruleset_has number items place h
ruleset_has number (Item.Object object.Module ps ∷ items) place h = ruleset_has number items place h
ruleset_has number (Item.Object object.Global ps ∷ items) place h = ruleset_has number items place h
ruleset_has number (Item.Call name ∷ items) place h = ruleset_has number items place h
ruleset_has number (Item.Test test ∷ items) place h = ruleset_has number items place h

pub call_leads : (all : List Item) (place : ℕ) → is_queued_ruleset (slice_get (rulesets_of all) place) ≡ true → Has (list_queues all) (place + 1)
call_leads all place h =
    has_behind (None ∷ []) (ruleset_queues 1 all ++ action_queues 1 all) place (place + 1) (omega arith)
    (has_in_front (ruleset_queues 1 all) (action_queues 1 all) place (ruleset_has 1 all place h))

-- of an action that has one

has_all : (number : ℕ) (items : List Item) (k : ℕ) → k < length (action_queues number items) → Has (action_queues number items) k
has_all number [] k le = absurd (omega (arith, le))
has_all number (x ∷ items) k le = by_case (is_queued_action x) (action_queues (queue_after number x) items) k (has_all (queue_after number x) items) le
  where
    by_case : (b : Bool) (rest : List (Option ℕ)) (k : ℕ) → ((j : ℕ) → j < length rest → Has rest j) → k < length (if b then Some number ∷ rest else rest) → Has (if b then Some number ∷ rest else rest) k
    by_case true rest zero h le = refl
    by_case true rest (suc k) h le = h k (omega (arith, le))
    by_case false rest k h le = h k le

queued_before : (actions : List ActionParameters) (a : ℕ) → action_has_queue (slice_get actions a) ≡ true → queued (take a actions) < queued actions
queued_before [] a h = cc
queued_before (x ∷ later) zero h = first (is_some x.queue) h
  where
    first : (b : Bool) → b ≡ true → 0 < (if b then queued later + 1 else queued later)
    first true e = omega arith
    first false e = cc
queued_before (x ∷ later) (suc a) h = next (is_some x.queue) (queued_before later a h)
  where
    next : (b : Bool) → queued (take a later) < queued later → (if b then queued (take a later) + 1 else queued (take a later)) < (if b then queued later + 1 else queued later)
    next true le = omega (arith, le)
    next false le = le

pub action_leads : (all : List Item) (tests : List (Formula Test)) (a : ℕ) → action_has_queue (slice_get (actions_of all) a) ≡ true → Has (list_queues all) (list_of_action (file_of all tests) a)
action_leads all tests a h =
    let rulesets = length-ruleset_queues 1 all in
    let lists = length-list_queues all in
    let k = queued (take a (actions_of all)) in
    let few = queued_before (actions_of all) a h in
    has_behind (None ∷ ruleset_queues 1 all) (action_queues 1 all) k (list_of_action (file_of all tests) a) (omega (arith, rulesets))
    (has_all 1 all k (omega (arith, length-append (ruleset_queues 1 all) (action_queues 1 all), few, lists, rulesets)))

-- ---- the lists of a plan

bodies_listed : (Q : Body → Type 0) (lines : List Lines) → ((l : ℕ) → Q (body_of lines l)) → (number : ℕ) (queues : List (Option ℕ)) → AllByRecursion (λ l. Q l.body) (listed_from lines number queues)
bodies_listed Q lines known number [] = tt
bodies_listed Q lines known number (q ∷ qs) = (known number, bodies_listed Q lines known (number + 1) qs)

queues_listed : (Q : Option ℕ → Type 0) (lines : List Lines) (number : ℕ) (queues : List (Option ℕ)) → AllByRecursion Q queues → AllByRecursion (λ l. Q l.queue) (listed_from lines number queues)
queues_listed Q lines number [] p = tt
queues_listed Q lines number (q ∷ qs) p = (p.0, queues_listed Q lines (number + 1) qs p.1)

-- a queue of a list's own
abbrev IsOwn : ℕ → Option ℕ → Type 0
IsOwn most o = IfSome o (λ queue. (1 ≤ queue) × (queue < most))

are_own : (most : ℕ) (queues : List (Option ℕ)) → AllByRecursion IsInner queues → AllByRecursion (Exists most) queues → AllByRecursion (IsOwn most) queues
are_own most [] p q = tt
are_own most (None ∷ queues) p q = (tt, are_own most queues p.1 q.1)
are_own most (Some queue ∷ queues) p q = ((p.0, q.0), are_own most queues p.1 q.1)

each : {X : Type 0} (P Q : X → Type 0) → ((x : X) → P x → Q x) → (xs : List X) → AllByRecursion P xs → AllByRecursion Q xs
each P Q f [] p = tt
each P Q f (x ∷ xs) p = (f x p.0, each P Q f xs p.1)

length-queued_names : (number : ℕ) (actions : List ActionParameters) → length (queued_names number actions) ≡ queued actions
length-queued_names number [] = refl
length-queued_names number (a ∷ later) = by_case (is_some a.queue) (length-queued_names (number + 1) later)
  where
    by_case : (b : Bool) → length (queued_names (number + 1) later) ≡ queued later → length (if b then action_name number a.name ∷ queued_names (number + 1) later else queued_names (number + 1) later) ≡ (if b then queued later + 1 else queued later)
    by_case true h = omega (arith, h)
    by_case false h = h

names_are_as_many : (all : List Item) → length (list_names (rulesets_of all) (actions_of all)) ≡ length (list_queues all)
names_are_as_many all =
    omega (arith, length-append (names_of (rulesets_of all)) (queued_names 0 (actions_of all)), length-map (rulesets_of all) (λ r. r.name), length-queued_names 0 (actions_of all), length-list_queues all)

-- ---- the plan of a script

-- the plan of these items, where its lists have these lines
abbrev pub plan_from : List Item → List Lines → Plan
plan_from all lines = record {
  inputs = map (input_part all) (inputs_of all);
  queues = queues_of all;
  workers = workers_of all;
  actions = action_parts 0 (actions_of all);
  lists = listed_from lines 0 (list_queues all);
  rulesets = length (rulesets_of all);
  names = list_names (rulesets_of all) (actions_of all);
}

module _ (script : Script) (tests : List (Formula Test))
    (clean : faults_after (items script) [] (items script) ≡ [])
    (workers : too_many_workers (items script) ≡ [])
    (small : (l : ℕ) → statements_of (lines_of script tests) l ≤ 65536)
    (few : (l : ℕ) → count (body_of (lines_of script tests) l) ≤ 64) where
  abbrev all : List Item
  all = items script

  abbrev plan : Plan
  plan = plan_from all (lines_of script tests)

  pushes : (i : InputParameters) → (input_part all i).queue ≡ queue_for plan (input_part all i).list
  pushes i =
      let list = list_of_input all i.ruleset_name in
      or_main (slice_get (list_queues all) list) ∙ ap (λ (o : Option ℕ). unwrap_or o 0) (sym (own_listed (lines_of script tests) 0 (list_queues all) list))

  led : (queue : ℕ) → 1 ≤ queue → queue < length plan.queues → IsLed plan queue
  led queue least most =
      let lines = lines_of script tests in
      let once = once_listed all queue least most in
      let first = found queue (list_queues all) (omega (arith, once)) in
      record {
        list = first.0;
        leads = own_listed lines 0 (list_queues all) first.0 ∙ first.1;
        alone = λ other e. alone queue (list_queues all) first.0 other (omega (arith, once)) first.1 (sym (own_listed lines 0 (list_queues all) other) ∙ e);
      }

  lists_are_as_many : length plan.lists ≡ length (list_queues all)
  lists_are_as_many = length-listed_from (lines_of script tests) 0 (list_queues all)

  runs : (a : ℕ) → a < length (actions_of all) → a < length plan.actions
  runs a le = omega (arith, le, length-action_parts 0 (actions_of all))

  posts : (l : ℕ) → Has (list_queues all) l → is_some (whole.queue_at plan l) ≡ true
  posts l h = ap is_some (own_listed (lines_of script tests) 0 (list_queues all) l) ∙ h

  bodies_lead : (l : ℕ) → AllByRecursion (Leads plan) (occurrences (body_of (lines_of script tests) l))
  bodies_lead =
      bodies_all (Leads plan) (file_of all tests) runs
      (λ a le h. posts (list_of_action (file_of all tests) a) (action_leads all tests a h))
      (λ place h. posts (place + 1) (call_leads all place h))
      (parts script.tops) (as_many_actions script.tops)

  -- a list behind those of the rulesets runs an action alone
  own_lists : (list : ℕ) → plan.rulesets < list → list < length plan.lists → (action : ℕ) × (runs_alone (whole.body_at plan list) ≡ Some action)
  own_lists list le most =
      let lines = lines_of script tests in
      let many = length-list_queues all in
      let own = own_list script tests list le (omega (arith, most, lists_are_as_many, many)) in
      (own.action, ap runs_alone (body_listed_at lines 0 (list_queues all) list list (omega (arith, most, lists_are_as_many)) (omega arith) ∙ own.body))

  pub is_whole : IsWhole plan
  is_whole =
      let kept = are_clean all clean in
      let bound = inputs_are_bound all kept in
      let rulesets = few_rulesets all clean in
      let actions = few_actions all clean in
      let inner = queues_of_both all in
      record {
        inputs_most = omega (arith, few_inputs all clean, length-map (inputs_of all) (input_part all));
        input_ports = All-from_recursion (λ i. 1 ≤ i.port) plan.inputs (each (IsBound all) (λ i. 1 ≤ i.port) (λ i p. p.0) plan.inputs bound);
        ports_differ = ports_differ all clean;
        input_lists = All-from_recursion (λ i. i.list ≤ plan.rulesets) plan.inputs (each (IsBound all) (λ i. i.list ≤ plan.rulesets) (λ i p. p.1) plan.inputs bound);
        input_queues_are_those_of_their_lists = All-map (λ i. i.queue ≡ queue_for plan i.list) (input_part all) (inputs_of all) (λ k d within. pushes (slice_index_or (inputs_of all) k d));
        input_queues = All-from_recursion (λ i. i.queue < length plan.queues) plan.inputs (each (IsBound all) (λ i. i.queue < length plan.queues) (λ i p. p.2) plan.inputs bound);
        queues_least = omega arith;
        queues_most = omega (arith, inner, rulesets, actions);
        queue_ranges = All-from_recursion AreInRange plan.queues (queues_in_range all kept);
        workers = refl;
        workers_most = omega (arith, few_workers all workers, length-workers_from 0 (queues_of all));
        worker_queues = All-from_recursion (λ queue. queue < length plan.queues) plan.workers (workers_exist (length plan.queues) 0 (queues_of all) (omega arith));
        actions_most = omega (arith, actions, length-action_parts 0 (actions_of all));
        names_differ = names_differ all clean;
        target_ports = All-from_recursion (λ a. HasPort a.destination) plan.actions (targets_have_ports all kept);
        lists_least = omega (arith, lists_are_as_many);
        lists_most = omega (arith, lists_are_as_many, length-list_queues all, rulesets, actions, queued_at_most (actions_of all));
        list_names = omega (arith, names_are_as_many all, lists_are_as_many);
        rulesets_before = omega (arith, lists_are_as_many, length-list_queues all);
        own_lists = own_lists;
        main_list = refl;
        list_queues = All-from_recursion (λ l. IsOwn (length plan.queues) l.queue) plan.lists
            (queues_listed (IsOwn (length plan.queues)) (lines_of script tests) 0 (list_queues all) (are_own (length plan.queues) (list_queues all) (lists_are_inner all) (list_queues_exist all)));
        queues_are_led = led;
        statements_most = All-from_recursion (λ l. size l.body ≤ 65536) plan.lists
            (bodies_listed (λ s. size s ≤ 65536) (lines_of script tests) (λ l. size_at_most 65536 (lines_of script tests) l (small l)) 0 (list_queues all));
        occurrences_most = All-from_recursion (λ l. count l.body ≤ 64) plan.lists (bodies_listed (λ s. count s ≤ 64) (lines_of script tests) few 0 (list_queues all));
        occurrences_lead = All-from_recursion (λ l. All (Leads plan) (occurrences l.body)) plan.lists
            (bodies_listed (λ s. All (Leads plan) (occurrences s)) (lines_of script tests) (λ l. All-from_recursion (Leads plan) (occurrences (body_of (lines_of script tests) l)) (bodies_lead l)) 0 (list_queues all));
      }
