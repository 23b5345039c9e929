-- The lists of rulesets and of actions with a queue: which queue leads to each, and that an action's list runs that action.
use Rattle.std.proofs.Common.{◌≡◌, ℕ, zero, suc, ◌+◌, ◌<◌, true, if◌then◌else◌, List, [], ◌∷◌, ◌++◌, length, take, slice_get, Option, Some, None, is_some, option_and_then, refl, sym, ap, ◌∙◌, arith}
use Rattle.std.proofs.Math.Seq.{take-append_seam}
use Rattle.std.proofs.lemmas.List.Elements.{filter_map-append}
use Rattle.std.specs.List.{cons_option, filter_map}
use Rattle.sy_script.specs.declared.tree.Param.{Param}
use Rattle.sy_script.specs.declared.tree.Script.{Script}
use Rattle.sy_rules.specs.declared.parameters.objects.ActionParameters.{ActionParameters}
use Rattle.sy_rules.specs.declared.parameters.objects.RulesetParameters.{RulesetParameters}
use Rattle.sy_rules.specs.declared.parameters.settings.QueueParameters.{QueueParameters}
use Rattle.sy_rules.specs.parts.Given.{Stands}
use Rattle.sy_rules.specs.lists.Lines.{Lines, action_has_queue, list_of_action, queued, body_of}
use Rattle.sy_rules.specs.items.Outline.{Item, items}
use Rattle.sy_rules.specs.parts.Plans.{action_at, action_queues, actions_of, list_queues, own_queue, queue_after, queue_here, queue_number, queues_of, ruleset_at, ruleset_queues, rulesets_of}
use Rattle.sy_rules.specs.PlanValue.{HasParts, IsPlan, Plan, lines_of, listed_from}
use Rattle.sy_rules.specs.check.ScriptFaults.{untested}
use Rattle.sy_rules.specs.lists.Body.{Body}
use Rattle.sy_rules.specs.Whole as whole
use Rattle.sy_rules.specs.Whole.{body_at, body_in, owner_at, queue_in, runs_alone}
use Rattle.sy_rules.proofs.lemmas.parts.GivenInputs.{moved, ruleset_queue}
use Rattle.sy_rules.proofs.lemmas.parts.GivenItems.{action_item, not_both, queued_at, ruleset_item, same_some}
use Rattle.sy_rules.proofs.lemmas.parts.GivenLists.{count_queued, item_at, own_list, post_runs}
use Rattle.sy_rules.proofs.lemmas.parts.Listed.{body_listed_at, length-listed_from}
use Rattle.sy_rules.proofs.lemmas.plan.OwnLists.{owned, owned_within, owner_runs}
use Rattle.sy_rules.proofs.lemmas.check.FaultLaws.{listed_parts}
use Rattle.sy_rules.proofs.lemmas.parts.WholeItems.{length-list_queues, length-ruleset_queues}

-- ---- the item that gives what stands at a place

abbrev Giver : {A : Type 0} → (Item → Option A) → List Item → ℕ → A → Type 0
Giver at all k a = (before : List Item) × (x : Item) × (later : List Item) × (all ≡ before ++ x ∷ later) × (at x ≡ Some a) × (k ≡ length (filter_map at before))

giver : {A : Type 0} (at : Item → Option A) (all : List Item) (k : ℕ) (a : A) → slice_get (filter_map at all) k ≡ Some a → Giver at all k a
giver at [] k a h = absurd (not_both None a refl h)
giver {A} at (x ∷ items) k a h = by_case (at x) refl k (λ j e. giver at items j a e) h
  where
    by_case : (o : Option A) → at x ≡ o → (k : ℕ) → ((j : ℕ) → slice_get (filter_map at items) j ≡ Some a → Giver at items j a) → slice_get (cons_option o (filter_map at items)) k ≡ Some a → Giver at (x ∷ items) k a
    by_case None e k next h =
        let g = next k h in
        (x ∷ g.0, g.1, g.2, ap (λ xs. x ∷ xs) g.3, g.4, g.5 ∙ sym (ap (λ o. length (cons_option o (filter_map at g.0))) e))
    by_case (Some b) e zero next h = ([], x, items, refl, e ∙ h, refl)
    by_case (Some b) e (suc j) next h =
        let g = next j h in
        (x ∷ g.0, g.1, g.2, ap (λ xs. x ∷ xs) g.3, g.4, ap suc g.5 ∙ sym (ap (λ o. length (cons_option o (filter_map at g.0))) e))

-- ---- queues by their numbers

queue_there : (all before : List Item) (x : Item) (later : List Item) (q : QueueParameters) → all ≡ before ++ x ∷ later → own_queue x ≡ Some q → slice_get (queues_of all) (queue_number before) ≡ Some q
queue_there all before x later q e h =
    let more : queue_number before ≡ suc (length (filter_map own_queue before)) = omega arith in
    let inner : filter_map own_queue all ≡ filter_map own_queue before ++ q ∷ filter_map own_queue later =
    ap (filter_map own_queue) e ∙ (filter_map-append own_queue before (x ∷ later) ∙ ap (λ o. filter_map own_queue before ++ cons_option o (filter_map own_queue later)) h) in
    rw more (ap (λ qs. slice_get qs (length (filter_map own_queue before))) inner ∙ item_at (filter_map own_queue before) q (filter_map own_queue later))

-- the queue of an object's own, among all queues
queue_given : (all before : List Item) (x : Item) (later : List Item) → all ≡ before ++ x ∷ later → option_and_then (slice_get (queues_of all)) (queue_here (queue_number before) x) ≡ own_queue x
queue_given all before x later e = by_case (own_queue x) refl
  where
    by_case : (o : Option QueueParameters) → own_queue x ≡ o → option_and_then (slice_get (queues_of all)) (if is_some o then Some (queue_number before) else None) ≡ o
    by_case None h = refl
    by_case (Some q) h = queue_there all before x later q e h

-- ---- lists by their numbers

listed_there : (lines : List Lines) (number : ℕ) (queues : List (Option ℕ)) (k m : ℕ) (o : Option ℕ) → m ≡ number + k → slice_get queues k ≡ Some o → slice_get (listed_from lines number queues) k ≡ Some (record { body = body_of lines m; queue = o })
listed_there lines number [] k m o e h = absurd (not_both None o refl h)
listed_there lines number (q ∷ queues) zero m o e h =
    let same : m ≡ number = omega (arith, e) in
    rw (same, same_some (Some q) q o refl h) refl
listed_there lines number (q ∷ queues) (suc k) m o e h = listed_there lines (number + 1) queues k m o (omega (arith, e)) h

-- a list whose queue is this one
list_there : (script : Script) (plan : Plan) (p : HasParts script plan) (l : ℕ) (o : Option ℕ) → slice_get (list_queues (items script)) l ≡ Some o → slice_get plan.lists l ≡ Some (record { body = body_of (lines_of script p.tests) l; queue = o })
list_there script plan p l o h = ap (λ ls. slice_get ls l) p.lists ∙ listed_there (lines_of script p.tests) 0 (list_queues (items script)) l l o (omega arith) h

-- ---- rulesets

pub queue_of_ruleset : (script : Script) (plan : Plan) (place : ℕ) (r : RulesetParameters) → IsPlan script plan → slice_get (rulesets_of (items script)) place ≡ Some r → option_and_then (slice_get plan.queues) (whole.queue_at plan (place + 1)) ≡ r.queue
queue_of_ruleset script plan place r is h =
    let all = items script in
    let p = listed_parts script plan is in
    let g = giver ruleset_at all place r h in
    let i = ruleset_item g.1 r g.4 in
    let stands : Stands all g.0 (Item.Ruleset i.0) = record { later = g.2; whole = g.3 ∙ ap (λ x. g.0 ++ x ∷ g.2) i.1 } in
    let number : place + 1 ≡ 1 + length (rulesets_of g.0) = omega (arith, g.5) in
    let there = ap (slice_get (list_queues all)) number ∙ ruleset_queue all g.0 i.0 stands in
    ap (λ l. option_and_then (slice_get plan.queues) (queue_in l)) (list_there script plan p (place + 1) _ there)
    ∙ (ap (λ qs. option_and_then (slice_get qs) (queue_here (queue_number g.0) (Item.Ruleset i.0))) p.queues
    ∙ (queue_given all g.0 (Item.Ruleset i.0) g.2 stands.whole ∙ ap (λ r. r.queue) (sym i.2)))

-- ---- actions

behind_front : {A : Type 0} (xs ys : List A) (k m : ℕ) → m ≡ length xs + k → slice_get (xs ++ ys) m ≡ slice_get ys k
behind_front [] ys k m e =
    let same : m ≡ k = omega (arith, e) in
    rw same refl
behind_front (x ∷ xs) ys k zero e = absurd (omega (arith, e))
behind_front (x ∷ xs) ys k (suc m) e = behind_front xs ys k m (omega (arith, e))

queue_of_action_list : (number m : ℕ) (before : List Item) (params : List Param) (later : List Item) (q : QueueParameters) → own_queue (Item.Action params) ≡ Some q → m ≡ number + length (filter_map own_queue before) → slice_get (action_queues number (before ++ Item.Action params ∷ later)) (length (filter_map queued_at before)) ≡ Some (Some m)
queue_of_action_list number m [] params later q h e =
    let same : m ≡ number = omega (arith, e) in
    ap (λ b. slice_get (if b then Some number ∷ action_queues (queue_after number (Item.Action params)) later else action_queues (queue_after number (Item.Action params)) later) 0) (ap is_some h) ∙ ap (λ n. Some (Some n)) (sym same)
queue_of_action_list number m (b ∷ before) params later q h e = by_item b (queue_of_action_list (queue_after number b) m before params later q h (e ∙ sym (moved number b before)))
  where
    by_case : (o : Option QueueParameters) (rest : List (Option ℕ)) (front : List QueueParameters) → slice_get rest (length front) ≡ Some (Some m) → slice_get (if is_some o then Some number ∷ rest else rest) (length (cons_option o front)) ≡ Some (Some m)
    by_case None rest front h = h
    by_case (Some q) rest front h = h

    by_item : (b : Item) → slice_get (action_queues (queue_after number b) (before ++ Item.Action params ∷ later)) (length (filter_map queued_at before)) ≡ Some (Some m) → slice_get (action_queues number (b ∷ before ++ Item.Action params ∷ later)) (length (filter_map queued_at (b ∷ before))) ≡ Some (Some m)
    by_item (Item.Action ps) h = by_case (own_queue (Item.Action ps)) (action_queues (queue_after number (Item.Action ps)) (before ++ Item.Action params ∷ later)) (filter_map queued_at before) h
    by_item (Item.Ruleset ps) h = h
    by_item (Item.Object found ps) h = h
    by_item (Item.Call name) h = h
    by_item (Item.Test test) h = h

-- the list of an action with a queue
queued_list : (script : Script) (number : ℕ) (a : ActionParameters) → slice_get (actions_of (items script)) number ≡ Some a → is_some a.queue ≡ true → (o : Option ℕ) × (slice_get (list_queues (items script)) (list_of_action (untested (items script)) number) ≡ Some o) × (option_and_then (slice_get (queues_of (items script))) o ≡ a.queue)
queued_list script number a h has = by_item (giver action_at all number a h)
  where
    all : List Item
    all = items script

    by_queue : (before : List Item) (params : List Param) (later : List Item) → all ≡ before ++ Item.Action params ∷ later → number ≡ length (actions_of before) → (o : Option QueueParameters) → own_queue (Item.Action params) ≡ o → is_some o ≡ true → (p : Option ℕ) × (slice_get (list_queues all) (list_of_action (untested all) number) ≡ Some p) × (option_and_then (slice_get (queues_of all)) p ≡ o)
    by_queue before params later e n None q is = cc
    by_queue before params later e n (Some q) is_q is =
        let own = queue_number before in
        let front : take number (actions_of all) ≡ actions_of before =
        ap (λ k. take k (actions_of all)) n ∙ (ap (take (length (actions_of before))) (ap actions_of e ∙ filter_map-append action_at before (Item.Action params ∷ later)) ∙ take-append_seam (actions_of before) (actions_of (Item.Action params ∷ later))) in
        let k = length (filter_map queued_at before) in
        let at_list : list_of_action (untested all) number ≡ length (None ∷ ruleset_queues 1 all) + k = omega (arith, length-ruleset_queues 1 all, count_queued before, ap queued front) in (
          Some own,
          behind_front (None ∷ ruleset_queues 1 all) (action_queues 1 all) k (list_of_action (untested all) number) at_list
              ∙ (ap (λ xs. slice_get (action_queues 1 xs) k) e ∙ queue_of_action_list 1 own before params later q is_q (omega arith)),
          queue_there all before (Item.Action params) later q e is_q,
        )

    by_item : Giver action_at all number a → (o : Option ℕ) × (slice_get (list_queues all) (list_of_action (untested all) number) ≡ Some o) × (option_and_then (slice_get (queues_of all)) o ≡ a.queue)
    by_item g =
        let i = action_item g.1 a g.4 in
        by_queue g.0 i.0 g.2 (g.3 ∙ ap (λ x. g.0 ++ x ∷ g.2) i.1) g.5 a.queue (ap (λ (a : ActionParameters). a.queue) (sym i.2)) has

pub queue_of_action : (script : Script) (plan : Plan) (number : ℕ) (a : ActionParameters) → IsPlan script plan → slice_get (actions_of (items script)) number ≡ Some a → is_some a.queue ≡ true → option_and_then (slice_get plan.queues) (whole.queue_at plan (list_of_action (untested (items script)) number)) ≡ a.queue
queue_of_action script plan number a is h has =
    let p = listed_parts script plan is in
    let l = queued_list script number a h has in
    ap (λ l. option_and_then (slice_get plan.queues) (queue_in l)) (list_there script plan p (list_of_action (untested (items script)) number) l.0 l.1)
    ∙ (ap (λ qs. option_and_then (slice_get qs) l.0) p.queues ∙ l.2)

pub run_of_action : (script : Script) (plan : Plan) (number : ℕ) (a : ActionParameters) → IsPlan script plan → slice_get (actions_of (items script)) number ≡ Some a → is_some a.queue ≡ true → body_at plan (list_of_action (untested (items script)) number) ≡ Body.Run number Body.End
run_of_action script plan number a is h has =
    let p = listed_parts script plan is in
    let l = queued_list script number a h has in
    ap body_in (list_there script plan p (list_of_action (untested (items script)) number) l.0 l.1)
    ∙ post_runs script p.tests number (ap action_has_queue h ∙ has)

-- ---- own lists

-- an action's own list is the one that it posts to
pub own_of_action : (script : Script) (plan : Plan) (number : ℕ) (a : ActionParameters) → IsPlan script plan → slice_get (actions_of (items script)) number ≡ Some a → is_some a.queue ≡ true
    → owner_at plan (list_of_action (untested (items script)) number) ≡ Some number
own_of_action script plan number a is h has =
    owned plan (list_of_action (untested (items script)) number) (let many = (listed_parts script plan is).rulesets in omega (arith, many))
    ∙ ap runs_alone (run_of_action script plan number a is h has)

-- the action has a queue, and posts to the list
pub record IsOwner (script : Script) (number list : ℕ) : Type 0 where
  pub action : ActionParameters
  pub found : slice_get (actions_of (items script)) number ≡ Some action
  pub has : is_some action.queue ≡ true
  pub is : list ≡ list_of_action (untested (items script)) number

with_queue : (o : Option ActionParameters) → action_has_queue o ≡ true → (a : ActionParameters) × (o ≡ Some a) × (is_some a.queue ≡ true)
with_queue None e = cc
with_queue (Some a) e = (a, refl, e)

one_run : (a b : ℕ) → Some a ≡ Some b → a ≡ b
one_run a b e = cc

pub owner_of_list : (script : Script) (plan : Plan) (list number : ℕ) → IsPlan script plan → owner_at plan list ≡ Some number → IsOwner script number list
owner_of_list script plan list number is e =
    let p = listed_parts script plan is in
    let all = items script in
    let lines = lines_of script p.tests in
    let many : length plan.lists ≡ length (list_queues all) = ap length p.lists ∙ length-listed_from lines 0 (list_queues all) in
    let counted = length-list_queues all in
    let within = owned_within plan list number e in
    let above : length (rulesets_of all) < list = (let le = within.0 in let r = p.rulesets in omega (arith, le, r)) in
    let below : list < length (list_queues all) = (let le = within.1 in omega (arith, le, many)) in
    let own = own_list script p.tests list above (omega (arith, below, counted)) in
    let body : body_at plan list ≡ Body.Run own.action Body.End =
    ap (λ ls. body_in (slice_get ls list)) p.lists ∙ (body_listed_at lines 0 (list_queues all) list list below (omega arith) ∙ own.body) in
    let same : own.action ≡ number = one_run own.action number (sym (ap runs_alone body) ∙ owner_runs plan list number e) in
    let there = with_queue (slice_get (actions_of all) number) (ap (λ n. action_has_queue (slice_get (actions_of all) n)) (sym same) ∙ own.has) in
    record { action = there.0; found = there.1; has = there.2; is = own.is ∙ ap (list_of_action (untested all)) same }
