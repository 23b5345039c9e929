-- Where nothing is wrong with the items of a script: each is clean by itself, and there are not too many of any kind.
use Rattle.std.proofs.Common.{◌≡◌, ℕ, suc, ◌+◌, ◌≤◌, ◌<◌, Bool, true, false, nat_le, nat_lt, List, [], ◌∷◌, ◌++◌, length, map, filter_map, sum, Option, Some, None, refl, ap, arith, codes}
use Rattle.std.proofs.lemmas.Bool.{leb-false, ltb-false}
use Rattle.std.proofs.lemmas.List.{length-map}
use Rattle.std.specs.List.{cons_option, list_any}
use Rattle.sy_script.specs.declared.tree.ObjectKind.TheVariants as object
use Rattle.sy_rules.specs.Limits.{ACTIONS, INPUTS, RULESETS}
use Rattle.sy_rules.specs.declared.fault.FaultCode.TheVariants as code
use Rattle.sy_rules.specs.declared.parameters.objects.ActionParameters.{ActionParameters}
use Rattle.sy_rules.specs.Faults.{fault, when}
use Rattle.sy_rules.specs.items.ItemFaults.{object_faults}
use Rattle.sy_rules.specs.internal.Checking.{AreClean, faults_after}
use Rattle.sy_rules.specs.items.Outline.{Item}
use Rattle.sy_rules.specs.parameters.Objects.{input_of, ruleset_of, action_of, kind_of_action}
use Rattle.sy_rules.specs.parts.Plans.{input_at, ruleset_at, action_at, own_queue, inputs_of, rulesets_of, actions_of, queues_of, names_from, action_names, action_name, default_ruleset}
use Rattle.sy_rules.specs.check.ScriptFaults.{faults_among, too_many, too_many_workers, not_loaded, unknown_ruleset, same_port, ports_of, ruleset_names_of, loads_imtcp, is_among}
use Rattle.sy_rules.proofs.lemmas.parameters.Fits.{no_front, no_back}

-- ---- each by itself

pub clean_items : (all before later : List Item) → faults_after all before later ≡ [] → AreClean later
clean_items all before [] e = tt
clean_items all before (x ∷ later) e =
    let behind = faults_after all (before ++ x ∷ []) later in (
      no_front (object_faults x) (faults_among all before x ++ behind) e,
      clean_items all (before ++ x ∷ []) later (no_back (faults_among all before x) behind (no_back (object_faults x) (faults_among all before x ++ behind) e)),
    )

-- ---- how many

one_at_most : {X : Type 0} (o : Option X) (xs : List X) → length (cons_option o xs) ≤ length xs + 1
one_at_most None xs = omega arith
one_at_most (Some x) xs = omega arith

not_above : {A : Type 0} (most n : ℕ) (b : Bool) (f : A) → nat_lt most n ≡ b → when b f ≡ [] → n ≤ most
not_above most n true f is e = cc
not_above most n false f is e = ltb-false most n is

below : {A : Type 0} (most n : ℕ) (b : Bool) (f : A) → nat_le most n ≡ b → when b f ≡ [] → n < most
below most n true f is e = cc
below most n false f is e = leb-false most n is

pub few_enough : (most n : ℕ) (word : List ℕ) → too_many most n word ≡ [] → n < most
few_enough most n word e = below most n (nat_le most n) (fault code.Range word) refl e

length-cons : {X : Type 0} (o : Option X) (xs ys zs : List X) → length xs ≡ length ys + length zs → length (cons_option o xs) ≡ length (cons_option o ys) + length zs
length-cons None xs ys zs e = e
length-cons (Some y) xs ys zs e = omega (arith, e)

length-filter_map-append : {X : Type 0} (f : Item → Option X) (xs ys : List Item) → length (filter_map f (xs ++ ys)) ≡ length (filter_map f xs) + length (filter_map f ys)
length-filter_map-append f [] ys = omega arith
length-filter_map-append f (x ∷ xs) ys = length-cons (f x) (filter_map f (xs ++ ys)) (filter_map f xs) (filter_map f ys) (length-filter_map-append f xs ys)

-- so many of this kind stand in this list
abbrev count_of : {X : Type 0} → (Item → Option X) → List Item → ℕ
count_of f items = length (filter_map f items)

-- where nothing is wrong with an item after others, it is not one too many
abbrev IsLimited : {X : Type 0} → (Item → Option X) → ℕ → Type 0
IsLimited f most = (all before : List Item) (x : Item) → faults_among all before x ≡ [] → count_of f before ≤ most → count_of f before + count_of f (x ∷ []) ≤ most

few_of : {X : Type 0} (f : Item → Option X) (most : ℕ) → IsLimited f most → (all before later : List Item) → faults_after all before later ≡ [] → count_of f before ≤ most → count_of f before + count_of f later ≤ most
few_of f most limited all before [] e le = omega (arith, le)
few_of f most limited all before (x ∷ later) e le =
    let behind = faults_after all (before ++ x ∷ []) later in
    let rest = no_back (object_faults x) (faults_among all before x ++ behind) e in
    let here = limited all before x (no_front (faults_among all before x) behind rest) le in
    let one = length-filter_map-append f before (x ∷ []) in
    let both = length-filter_map-append f (x ∷ []) later in
    let inner = few_of f most limited all (before ++ x ∷ []) later (no_back (faults_among all before x) behind rest) (omega (arith, here, one)) in
    omega (arith, here, one, both, inner)

inputs_limited : IsLimited input_at INPUTS
inputs_limited all before (Item.Object object.Input ps) e le =
    let rest = not_loaded (list_any loads_imtcp all) ++ (unknown_ruleset (ruleset_names_of all) (input_of ps).ruleset_name ++ same_port (ports_of before) (input_of ps).port) in
    let few = few_enough INPUTS (length (ports_of before)) (codes "input") (no_front (too_many INPUTS (length (ports_of before)) (codes "input")) rest e) in
    omega (arith, few, length-map (inputs_of before) (λ i. i.port))
inputs_limited all before (Item.Object object.MainQueue ps) e le = omega (arith, le)
inputs_limited all before (Item.Object object.Module ps) e le = omega (arith, le)
inputs_limited all before (Item.Object object.Global ps) e le = omega (arith, le)
inputs_limited all before (Item.Ruleset ps) e le = omega (arith, le)
inputs_limited all before (Item.Action ps) e le = omega (arith, le)
inputs_limited all before (Item.Call name) e le = omega (arith, le)
inputs_limited all before (Item.Test test) e le = omega (arith, le)

rulesets_limited : IsLimited ruleset_at RULESETS
rulesets_limited all before (Item.Ruleset ps) e le =
    let names = ruleset_names_of before in
    let few = few_enough RULESETS (length names) (codes "ruleset") (no_front (too_many RULESETS (length names) (codes "ruleset")) (when (is_among (ruleset_of ps).name (default_ruleset ∷ names)) (fault code.Duplicate (ruleset_of ps).name)) e) in
    omega (arith, few, length-map (rulesets_of before) (λ r. r.name))
rulesets_limited all before (Item.Object object.Input ps) e le = omega (arith, le)
rulesets_limited all before (Item.Object object.MainQueue ps) e le = omega (arith, le)
rulesets_limited all before (Item.Object object.Module ps) e le = omega (arith, le)
rulesets_limited all before (Item.Object object.Global ps) e le = omega (arith, le)
rulesets_limited all before (Item.Action ps) e le = omega (arith, le)
rulesets_limited all before (Item.Call name) e le = omega (arith, le)
rulesets_limited all before (Item.Test test) e le = omega (arith, le)

length-names_from : (number : ℕ) (actions : List ActionParameters) → length (names_from number actions) ≡ length actions
length-names_from number [] = refl
length-names_from number (a ∷ later) = ap suc (length-names_from (number + 1) later)

actions_limited : IsLimited action_at ACTIONS
actions_limited all before (Item.Action ps) e le =
    let names = action_names before in
    let name = action_name (length (actions_of before)) (action_of (kind_of_action ps) ps).name in
    let few = few_enough ACTIONS (length names) (codes "action") (no_front (too_many ACTIONS (length names) (codes "action")) (when (is_among name names) (fault code.Duplicate name)) e) in
    omega (arith, few, length-names_from 0 (actions_of before))
actions_limited all before (Item.Ruleset ps) e le = omega (arith, le)
actions_limited all before (Item.Object object.Input ps) e le = omega (arith, le)
actions_limited all before (Item.Object object.MainQueue ps) e le = omega (arith, le)
actions_limited all before (Item.Object object.Module ps) e le = omega (arith, le)
actions_limited all before (Item.Object object.Global ps) e le = omega (arith, le)
actions_limited all before (Item.Call name) e le = omega (arith, le)
actions_limited all before (Item.Test test) e le = omega (arith, le)

-- ---- what a script without faults keeps

module _ (all : List Item) (clean : faults_after all [] all ≡ []) where
  pub are_clean : AreClean all
  are_clean = clean_items all [] all clean

  pub few_inputs : length (inputs_of all) ≤ 64
  few_inputs = omega (arith, few_of input_at INPUTS inputs_limited all [] all clean (omega arith))

  pub few_rulesets : length (rulesets_of all) ≤ 256
  few_rulesets = omega (arith, few_of ruleset_at RULESETS rulesets_limited all [] all clean (omega arith))

  pub few_actions : length (actions_of all) ≤ 256
  few_actions = omega (arith, few_of action_at ACTIONS actions_limited all [] all clean (omega arith))

-- a queue belongs to a ruleset or an action
pub queues_of_both : (items : List Item) → length (filter_map own_queue items) ≤ length (rulesets_of items) + length (actions_of items)
queues_of_both [] = omega arith
queues_of_both (Item.Object object.Input ps ∷ items) = queues_of_both items
queues_of_both (Item.Object object.MainQueue ps ∷ items) = queues_of_both items
queues_of_both (Item.Object object.Module ps ∷ items) = queues_of_both items
queues_of_both (Item.Object object.Global ps ∷ items) = queues_of_both items
queues_of_both (Item.Call name ∷ items) = queues_of_both items
queues_of_both (Item.Test test ∷ items) = queues_of_both items
queues_of_both (Item.Ruleset ps ∷ items) =
    omega (arith, one_at_most (own_queue (Item.Ruleset ps)) (filter_map own_queue items), queues_of_both items)
queues_of_both (Item.Action ps ∷ items) =
    omega (arith, one_at_most (own_queue (Item.Action ps)) (filter_map own_queue items), queues_of_both items)

-- ---- workers

pub few_workers : (all : List Item) → too_many_workers all ≡ [] → sum (map (λ q. q.workers) (queues_of all)) ≤ 256
few_workers all e = not_above 256 (sum (map (λ q. q.workers) (queues_of all))) _ _ refl e
