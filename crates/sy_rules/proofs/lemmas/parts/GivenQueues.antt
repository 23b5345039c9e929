-- Queues, workers and actions that objects give are those of the plan's definitions.
use Rattle.std.proofs.Common.{◌≡◌, ℕ, ◌+◌, false, List, [], ◌∷◌, ◌++◌, length, replicate, Option, Some, None, refl, sym, ap, ◌∙◌, subst, append_assoc, append-nil, arith}
use Rattle.std.proofs.lemmas.List.Elements.{filter_map-append}
use Rattle.std.proofs.lemmas.List.Folds.{list_any-append}
use Rattle.std.specs.List.{cons_option, filter_map, list_any}
use Rattle.sy_script.specs.declared.tree.ObjectKind.TheVariants as object
use Rattle.sy_script.specs.declared.tree.Param.{Param}
use Rattle.sy_rules.specs.declared.parameters.kind.Kind.TheVariants as kind
use Rattle.sy_rules.specs.declared.parameters.objects.ActionParameters.{ActionParameters}
use Rattle.sy_rules.specs.declared.parameters.settings.QueueParameters.{QueueParameters}
use Rattle.sy_rules.specs.declared.parts.Action.{Action}
use Rattle.sy_rules.specs.parts.Given.{Given, GivesAction, GivesMainQueue, GivesQueue, GiveWorkers}
use Rattle.sy_rules.specs.parameters.Objects.{action_of, kind_of_action, queue_parameters}
use Rattle.sy_rules.specs.items.Outline.{Item}
use Rattle.sy_rules.specs.parts.Plans.{action_at, actions_of, first_params, main_queue_at, main_queue_of, own_queue, workers_from}
use Rattle.sy_rules.specs.PlanValue.{action_part, action_parts}
use Rattle.sy_rules.specs.check.ScriptFaults.{is_main_queue}
use Rattle.sy_rules.proofs.lemmas.parts.GivenItems.{action_item, gives_no_queue, gives_queue, not_both, same_some}
use Rattle.sy_rules.proofs.lemmas.parts.GivenParts.{all_given, collected, pushed}

-- ---- queues of rulesets and actions

push_as_it_is : {A : Type 0} (o : Option A) (same next rest : List A) → same ≡ rest → next ≡ rest → pushed o (λ a. a) same next ≡ cons_option o rest
push_as_it_is None same next rest e f = e
push_as_it_is (Some a) same next rest e f = ap (λ xs. a ∷ xs) f

abbrev queue_part : List Item → Item → ℕ → QueueParameters → QueueParameters
queue_part before x number q = q

queues_collected : (number : ℕ) (before later : List Item) → collected own_queue queue_part number before later ≡ filter_map own_queue later
queues_collected number before [] = refl
queues_collected number before (x ∷ later) = push_as_it_is (own_queue x) _ _ (filter_map own_queue later) (queues_collected number (before ++ x ∷ []) later) (queues_collected (number + 1) (before ++ x ∷ []) later)

pub queues_given : (all : List Item) → Given GivesQueue 1 [] all (filter_map own_queue all)
queues_given all =
    subst (Given GivesQueue 1 [] all) (queues_collected 1 [] all)
    (all_given GivesQueue own_queue queue_part 1 all (λ before x number q _. gives_queue before x number q) gives_no_queue 1 [] all refl (omega arith))

-- ---- the main queue

no_params : (before : List Item) → list_any is_main_queue before ≡ false → filter_map main_queue_at before ≡ []
no_params [] h = refl
no_params (Item.Object object.MainQueue ps ∷ before) h = cc
no_params (Item.Object object.Input ps ∷ before) h = no_params before h
no_params (Item.Object object.Module ps ∷ before) h = no_params before h
no_params (Item.Object object.Global ps ∷ before) h = no_params before h
no_params (Item.Ruleset ps ∷ before) h = no_params before h
no_params (Item.Action ps ∷ before) h = no_params before h
no_params (Item.Call name ∷ before) h = no_params before h
no_params (Item.Test test ∷ before) h = no_params before h

-- none before, and none here
none_yet : (before : List Item) (x : Item) → list_any is_main_queue before ≡ false → is_main_queue x ≡ false → list_any is_main_queue (before ++ x ∷ []) ≡ false
none_yet before x h e = list_any-append is_main_queue before (x ∷ []) ∙ rw (h, e) refl

abbrev main_of : List (List Param) → QueueParameters
main_of ps = queue_parameters kind.MainQueue (first_params ps)

main_from : (all before later : List Item) → all ≡ before ++ later → list_any is_main_queue before ≡ false → GivesMainQueue all (main_of (filter_map main_queue_at later))
main_from all before [] e h = GivesMainQueue.Unsaid (ap (list_any is_main_queue) (e ∙ append-nil before) ∙ h) refl
main_from all before (Item.Object object.MainQueue ps ∷ later) e h = GivesMainQueue.Said before ps (record { later = later; whole = e }) h refl
main_from all before (Item.Object object.Input ps ∷ later) e h = main_from all (before ++ Item.Object object.Input ps ∷ []) later (e ∙ sym (append_assoc before (Item.Object object.Input ps ∷ []) later)) (none_yet before (Item.Object object.Input ps) h refl)
main_from all before (Item.Object object.Module ps ∷ later) e h = main_from all (before ++ Item.Object object.Module ps ∷ []) later (e ∙ sym (append_assoc before (Item.Object object.Module ps ∷ []) later)) (none_yet before (Item.Object object.Module ps) h refl)
main_from all before (Item.Object object.Global ps ∷ later) e h = main_from all (before ++ Item.Object object.Global ps ∷ []) later (e ∙ sym (append_assoc before (Item.Object object.Global ps ∷ []) later)) (none_yet before (Item.Object object.Global ps) h refl)
main_from all before (Item.Ruleset ps ∷ later) e h = main_from all (before ++ Item.Ruleset ps ∷ []) later (e ∙ sym (append_assoc before (Item.Ruleset ps ∷ []) later)) (none_yet before (Item.Ruleset ps) h refl)
main_from all before (Item.Action ps ∷ later) e h = main_from all (before ++ Item.Action ps ∷ []) later (e ∙ sym (append_assoc before (Item.Action ps ∷ []) later)) (none_yet before (Item.Action ps) h refl)
main_from all before (Item.Call name ∷ later) e h = main_from all (before ++ Item.Call name ∷ []) later (e ∙ sym (append_assoc before (Item.Call name ∷ []) later)) (none_yet before (Item.Call name) h refl)
main_from all before (Item.Test test ∷ later) e h = main_from all (before ++ Item.Test test ∷ []) later (e ∙ sym (append_assoc before (Item.Test test ∷ []) later)) (none_yet before (Item.Test test) h refl)

pub main_given : (all : List Item) → GivesMainQueue all (main_queue_of all)
main_given all = main_from all [] all refl refl

pub one_main : (all : List Item) (q : QueueParameters) → GivesMainQueue all q → q ≡ main_queue_of all
one_main all q (GivesMainQueue.Said before ps stands none is) =
    is ∙ sym (ap main_of (
    ap (filter_map main_queue_at) stands.whole
    ∙ (filter_map-append main_queue_at before (Item.Object object.MainQueue ps ∷ stands.later)
    ∙ ap (λ xs. xs ++ ps ∷ filter_map main_queue_at stands.later) (no_params before none))
    ))
one_main all q (GivesMainQueue.Unsaid none is) = is ∙ sym (ap main_of (no_params all none))

-- ---- workers

pub workers_given : (number : ℕ) (queues : List QueueParameters) → GiveWorkers number queues (workers_from number queues)
workers_given number [] = refl
workers_given number (q ∷ later) = (workers_from (number + 1) later, refl, workers_given (number + 1) later)

pub one_workers : (number : ℕ) (queues : List QueueParameters) (workers : List ℕ) → GiveWorkers number queues workers → workers ≡ workers_from number queues
one_workers number [] workers g = g
one_workers number (q ∷ later) workers g = g.1 ∙ ap (λ ws. replicate q.workers number ++ ws) (one_workers (number + 1) later g.0 g.2)

-- ---- actions

abbrev action_given : List Item → Item → ℕ → ActionParameters → Action
action_given before x number a = action_part number a

gives_action : (before : List Item) (x : Item) (number : ℕ) (a : ActionParameters) → action_at x ≡ Some a → number ≡ 0 + length (actions_of before) → GivesAction before x number (action_part number a)
gives_action before x number a h e =
    let i = action_item x a h in
    record {
      params = i.0;
      found = i.1;
      numbered = omega (arith, e);
      name = ap (λ a. (action_part number a).name) i.2;
      destination = ap (λ a. a.destination) i.2;
      retry = ap (λ a. a.retry) i.2;
      resume_interval = ap (λ a. a.resume_interval) i.2;
    }

gives_no_action : (before : List Item) (x : Item) (n : ℕ) (a : Action) → action_at x ≡ None → GivesAction before x n a → ⊥
gives_no_action before x n a h g = not_both (action_at x) (action_of (kind_of_action g.params) g.params) h (ap action_at g.found)

action_is : (n : ℕ) (a : Action) (said : ActionParameters) → a.name ≡ (action_part n said).name → a.destination ≡ said.destination → a.retry ≡ said.retry → a.resume_interval ≡ said.resume_interval → a ≡ action_part n said
action_is n a said e f g h =
    ap (λ x. record a { name = x }) e
    ∙ ap (λ x. record a { name = (action_part n said).name; destination = x }) f
    ∙ ap (λ x. record a { name = (action_part n said).name; destination = said.destination; retry = x }) g
    ∙ ap (λ x. record a { name = (action_part n said).name; destination = said.destination; retry = said.retry; resume_interval = x }) h

one_action : (before : List Item) (x : Item) (n : ℕ) (a : Action) (o : ActionParameters) → action_at x ≡ Some o → GivesAction before x n a → a ≡ action_part n o
one_action before x n a o h g =
    let said = action_of (kind_of_action g.params) g.params in
    action_is n a said g.name g.destination g.retry g.resume_interval
    ∙ ap (action_part n) (same_some (action_at x) said o (ap action_at g.found) h)

pub same_action : (before : List Item) (x : Item) (n : ℕ) (p q : Action) → GivesAction before x n p → GivesAction before x n q → p ≡ q
same_action before x n p q g h =
    let said = action_of (kind_of_action h.params) h.params in
    one_action before x n p said (ap action_at h.found) g ∙ sym (one_action before x n q said (ap action_at h.found) h)

push_action : (number : ℕ) (o : Option ActionParameters) (same next : List Action) (rest : List ActionParameters) → same ≡ action_parts number rest → next ≡ action_parts (number + 1) rest → pushed o (action_part number) same next ≡ action_parts number (cons_option o rest)
push_action number None same next rest e f = e
push_action number (Some a) same next rest e f = ap (λ xs. action_part number a ∷ xs) f

actions_collected : (number : ℕ) (before later : List Item) → collected action_at action_given number before later ≡ action_parts number (actions_of later)
actions_collected number before [] = refl
actions_collected number before (x ∷ later) = push_action number (action_at x) _ _ (actions_of later) (actions_collected number (before ++ x ∷ []) later) (actions_collected (number + 1) (before ++ x ∷ []) later)

pub actions_given : (all : List Item) → Given GivesAction 0 [] all (action_parts 0 (actions_of all))
actions_given all =
    subst (Given GivesAction 0 [] all) (actions_collected 0 [] all)
    (all_given GivesAction action_at action_given 0 all (λ before x number a _. gives_action before x number a) gives_no_action 0 [] all refl (omega arith))
