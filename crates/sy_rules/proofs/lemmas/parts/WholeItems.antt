-- What the items of a script with which nothing is wrong give to a plan: numbers that exist, and values in their ranges.
use Rattle.std.proofs.Common.{◌≡◌, ℕ, zero, suc, ◌+◌, ◌≤◌, ◌<◌, Bool, true, false, if◌then◌else◌, List, [], ◌∷◌, ◌++◌, length, map, filter_map, sum, slice_get, replicate, Option, Some, None, is_some, refl, ap, codes, arith}
use Rattle.std.proofs.lemmas.List.{length-append, length-map, length-replicate}
use Rattle.std.proofs.lemmas.List.Sums.{sum_by-cons}
use Rattle.std.specs.List.{AllByRecursion, cons_option}
use Rattle.std.specs.Option.{IfSome}
use Rattle.std.specs.Str.{bytes_eq}
use Rattle.sy_script.specs.declared.tree.ObjectKind.TheVariants as object
use Rattle.sy_script.specs.declared.tree.Param.{Param}
use Rattle.sy_rules.specs.declared.parameters.kind.Kind.{Kind}
use Rattle.sy_rules.specs.declared.parameters.kind.Kind.TheVariants as kind
use Rattle.sy_rules.specs.declared.parameters.objects.ActionParameters.{ActionParameters}
use Rattle.sy_rules.specs.declared.parameters.objects.InputParameters.{InputParameters}
use Rattle.sy_rules.specs.declared.parameters.settings.QueueParameters.{QueueParameters}
use Rattle.sy_rules.specs.items.ItemFaults.{object_faults}
use Rattle.sy_rules.specs.internal.Checking.{AreClean}
use Rattle.sy_rules.specs.parameters.Objects.{AreInRange, HasPort, has_queue, input_of, ruleset_of, action_of, kind_of_action, destination_of, kind_named, is_word, queue_of, queue_parameters}
use Rattle.sy_rules.specs.internal.Objects.{is_action, takes_queue}
use Rattle.sy_rules.specs.declared.parts.Input.{Input}
use Rattle.sy_rules.specs.lists.Lines.{queued}
use Rattle.sy_rules.specs.items.Outline.{Item}
use Rattle.sy_rules.specs.parameters.Values.{given, faults}
use Rattle.sy_rules.specs.parts.Plans.{input_at, action_at, own_queue, inputs_of, rulesets_of, actions_of, queues_of, main_queue_at, first_params, workers_from, one_more, place_of, list_at_place, list_of_input, ruleset_names, is_ruleset, is_queued_action, queue_here, queue_after, ruleset_queues, action_queues, list_queues}
use Rattle.sy_rules.specs.PlanValue.{input_part, action_parts, queue_or_main}
use Rattle.sy_rules.proofs.lemmas.parameters.Defaults.{main_queue_is_clean}
use Rattle.sy_rules.proofs.lemmas.parameters.Ranges.{queue_in_range, action_takes_queue, input_port, forward_port}

-- ---- all of a list

module _ {X : Type 0} (P : X → Type 0) where
  pub all-append : (xs ys : List X) → AllByRecursion P xs → AllByRecursion P ys → AllByRecursion P (xs ++ ys)
  all-append [] ys p q = q
  all-append (x ∷ xs) ys p q = (p.0, all-append xs ys p.1 q)

  pub all-cons_option : (o : Option X) (xs : List X) → IfSome o P → AllByRecursion P xs → AllByRecursion P (cons_option o xs)
  all-cons_option None xs p q = q
  all-cons_option (Some x) xs p q = (p, q)

  pub all-replicate : (n : ℕ) (x : X) → P x → AllByRecursion P (replicate n x)
  all-replicate zero x p = tt
  all-replicate (suc n) x p = (p, all-replicate n x p)

  pub if_there : (xs : List X) (k : ℕ) → AllByRecursion P xs → IfSome (slice_get xs k) P
  if_there [] k p = tt
  if_there (x ∷ xs) zero p = p.0
  if_there (x ∷ xs) (suc k) p = if_there xs k p.1

-- ---- queues and their workers

queue_of_in_range : (k : Kind) (ps : List Param) → takes_queue k ≡ true → faults k ps ≡ [] → IfSome (queue_of k ps) AreInRange
queue_of_in_range k ps takes clean = by_case (has_queue k ps)
  where
    by_case : (b : Bool) → IfSome (if b then Some (queue_parameters k ps) else None) AreInRange
    by_case true = queue_in_range k ps takes clean
    by_case false = tt

is_action_named : (word : Option (List ℕ)) → is_action (kind_named word) ≡ true
is_action_named word = by_case (is_word (codes "omfile") word) (is_word (codes "omfwd") word)
  where
    by_case : (a b : Bool) → is_action (if a then kind.Archive else if b then kind.Forward else kind.Action) ≡ true
    by_case true b = refl
    by_case false true = refl
    by_case false false = refl

pub kind_is_action : (ps : List Param) → is_action (kind_of_action ps) ≡ true
unfolding kind_of_action
kind_is_action ps = is_action_named (given (codes "type") ps)

queue_at_in_range : (x : Item) → object_faults x ≡ [] → IfSome (own_queue x) AreInRange
unfolding ruleset_of action_of
queue_at_in_range (Item.Ruleset ps) clean = queue_of_in_range kind.Ruleset ps refl clean
queue_at_in_range (Item.Action ps) clean = queue_of_in_range (kind_of_action ps) ps (action_takes_queue (kind_of_action ps) (kind_is_action ps)) clean
queue_at_in_range (Item.Object found ps) clean = tt
queue_at_in_range (Item.Call name) clean = tt
queue_at_in_range (Item.Test test) clean = tt

inner_in_range : (items : List Item) → AreClean items → AllByRecursion AreInRange (filter_map own_queue items)
inner_in_range [] clean = tt
inner_in_range (x ∷ items) clean = all-cons_option AreInRange (own_queue x) (filter_map own_queue items) (queue_at_in_range x clean.0) (inner_in_range items clean.1)

main_is_clean : (items : List Item) → AreClean items → faults kind.MainQueue (first_params (filter_map main_queue_at items)) ≡ []
main_is_clean [] clean = main_queue_is_clean
main_is_clean (Item.Object object.MainQueue ps ∷ items) clean = clean.0
main_is_clean (Item.Object object.Input ps ∷ items) clean = main_is_clean items clean.1
main_is_clean (Item.Object object.Module ps ∷ items) clean = main_is_clean items clean.1
main_is_clean (Item.Object object.Global ps ∷ items) clean = main_is_clean items clean.1
main_is_clean (Item.Ruleset ps ∷ items) clean = main_is_clean items clean.1
main_is_clean (Item.Action ps ∷ items) clean = main_is_clean items clean.1
main_is_clean (Item.Call name ∷ items) clean = main_is_clean items clean.1
main_is_clean (Item.Test test ∷ items) clean = main_is_clean items clean.1

pub queues_in_range : (items : List Item) → AreClean items → AllByRecursion AreInRange (queues_of items)
queues_in_range items clean = (queue_in_range kind.MainQueue _ refl (main_is_clean items clean), inner_in_range items clean)

pub length-workers_from : (number : ℕ) (queues : List QueueParameters) → length (workers_from number queues) ≡ sum (map (λ q. q.workers) queues)
length-workers_from number [] = refl
length-workers_from number (q ∷ later) =
    omega (arith, length-append (replicate q.workers number) (workers_from (number + 1) later), length-replicate q.workers number, length-workers_from (number + 1) later, sum_by-cons (λ x. x) q.workers (map (λ q. q.workers) later))

pub workers_exist : (most number : ℕ) (queues : List QueueParameters) → number + length queues ≤ most → AllByRecursion (λ queue. queue < most) (workers_from number queues)
workers_exist most number [] le = tt
workers_exist most number (q ∷ later) le =
    all-append (λ queue. queue < most) (replicate q.workers number) (workers_from (number + 1) later)
    (all-replicate (λ queue. queue < most) q.workers number (omega arith))
    (workers_exist most (number + 1) later (omega arith))

-- ---- actions

pub length-action_parts : (number : ℕ) (actions : List ActionParameters) → length (action_parts number actions) ≡ length actions
length-action_parts number [] = refl
length-action_parts number (a ∷ later) = ap suc (length-action_parts (number + 1) later)

destination_has_port : (k : Kind) (ps : List Param) → faults k ps ≡ [] → HasPort (destination_of k ps)
unfolding destination_of
destination_has_port kind.Forward ps clean = (forward_port ps clean).least
destination_has_port kind.Archive ps clean = tt
destination_has_port kind.Action ps clean = tt
destination_has_port kind.Module ps clean = tt
destination_has_port kind.Global ps clean = tt
destination_has_port kind.MainQueue ps clean = tt
destination_has_port kind.Input ps clean = tt
destination_has_port kind.Ruleset ps clean = tt

action_has_port : (x : Item) → object_faults x ≡ [] → IfSome (action_at x) (λ a. HasPort a.destination)
unfolding action_of
action_has_port (Item.Action ps) clean = destination_has_port (kind_of_action ps) ps clean
action_has_port (Item.Ruleset ps) clean = tt
action_has_port (Item.Object found ps) clean = tt
action_has_port (Item.Call name) clean = tt
action_has_port (Item.Test test) clean = tt

actions_have_ports : (items : List Item) → AreClean items → AllByRecursion (λ a. HasPort a.destination) (actions_of items)
actions_have_ports [] clean = tt
actions_have_ports (x ∷ items) clean = all-cons_option (λ a. HasPort a.destination) (action_at x) (actions_of items) (action_has_port x clean.0) (actions_have_ports items clean.1)

parts_have_ports : (number : ℕ) (actions : List ActionParameters) → AllByRecursion (λ a. HasPort a.destination) actions → AllByRecursion (λ a. HasPort a.destination) (action_parts number actions)
parts_have_ports number [] p = tt
parts_have_ports number (a ∷ later) p = (p.0, parts_have_ports (number + 1) later p.1)

pub targets_have_ports : (items : List Item) → AreClean items → AllByRecursion (λ a. HasPort a.destination) (action_parts 0 (actions_of items))
targets_have_ports items clean = parts_have_ports 0 (actions_of items) (actions_have_ports items clean)

-- ---- the queues of lists

-- the number after an item is no more than its queues
behind_fits : (number most : ℕ) (o : Option QueueParameters) (rest : List QueueParameters) → number + length (cons_option o rest) ≤ most → (if is_some o then number + 1 else number) + length rest ≤ most
behind_fits number most None rest le = le
behind_fits number most (Some q) rest le = omega (arith, le)

abbrev pub Exists : ℕ → Option ℕ → Type 0
Exists most o = IfSome o (λ queue. queue < most)

here_exists : (number most : ℕ) (o : Option QueueParameters) (rest : List QueueParameters) → number + length (cons_option o rest) ≤ most → Exists most (if is_some o then Some number else None)
here_exists number most None rest le = tt
here_exists number most (Some q) rest le = omega (arith, le)

if_ruleset : (most : ℕ) (b : Bool) (o : Option ℕ) (rest : List (Option ℕ)) → Exists most o → AllByRecursion (Exists most) rest → AllByRecursion (Exists most) (if b then o ∷ rest else rest)
if_ruleset most true o rest p q = (p, q)
if_ruleset most false o rest p q = q

ruleset_queues_exist : (most number : ℕ) (items : List Item) → number + length (filter_map own_queue items) ≤ most → AllByRecursion (Exists most) (ruleset_queues number items)
ruleset_queues_exist most number [] le = tt
ruleset_queues_exist most number (x ∷ items) le =
    if_ruleset most (is_ruleset x) (queue_here number x) (ruleset_queues (queue_after number x) items)
    (here_exists number most (own_queue x) (filter_map own_queue items) le)
    (ruleset_queues_exist most (queue_after number x) items (behind_fits number most (own_queue x) (filter_map own_queue items) le))

there : (number most : ℕ) (x : Item) (rest : List QueueParameters) → is_queued_action x ≡ true → number + length (cons_option (own_queue x) rest) ≤ most → number < most
there number most (Item.Action ps) rest is le = by_case (own_queue (Item.Action ps)) is le
  where
    by_case : (o : Option QueueParameters) → is_some o ≡ true → number + length (cons_option o rest) ≤ most → number < most
    by_case None e h = cc
    by_case (Some q) e h = omega (arith, h)
there number most (Item.Ruleset ps) rest is le = cc
there number most (Item.Object found ps) rest is le = cc
there number most (Item.Call name) rest is le = cc
there number most (Item.Test test) rest is le = cc

if_queued : (most number : ℕ) (b : Bool) (rest : List (Option ℕ)) → (b ≡ true → number < most) → AllByRecursion (Exists most) rest → AllByRecursion (Exists most) (if b then Some number ∷ rest else rest)
if_queued most number true rest p q = (p refl, q)
if_queued most number false rest p q = q

action_queues_exist : (most number : ℕ) (items : List Item) → number + length (filter_map own_queue items) ≤ most → AllByRecursion (Exists most) (action_queues number items)
action_queues_exist most number [] le = tt
action_queues_exist most number (x ∷ items) le =
    if_queued most number (is_queued_action x) (action_queues (queue_after number x) items)
    (λ is. there number most x (filter_map own_queue items) is le)
    (action_queues_exist most (queue_after number x) items (behind_fits number most (own_queue x) (filter_map own_queue items) le))

pub list_queues_exist : (items : List Item) → AllByRecursion (Exists (length (queues_of items))) (list_queues items)
list_queues_exist items =
    let most = length (queues_of items) in (
      tt,
      all-append (Exists most) (ruleset_queues 1 items) (action_queues 1 items)
          (ruleset_queues_exist most 1 items (omega arith))
          (action_queues_exist most 1 items (omega arith)),
    )

-- ---- how many lists

pub length-ruleset_queues : (number : ℕ) (items : List Item) → length (ruleset_queues number items) ≡ length (rulesets_of items)
length-ruleset_queues number [] = refl
length-ruleset_queues number (Item.Ruleset ps ∷ items) = ap suc (length-ruleset_queues (queue_after number (Item.Ruleset ps)) items)
length-ruleset_queues number (Item.Action ps ∷ items) = length-ruleset_queues (queue_after number (Item.Action ps)) items
length-ruleset_queues number (Item.Object object.Input ps ∷ items) = length-ruleset_queues number items
length-ruleset_queues number (Item.Object object.MainQueue ps ∷ items) = length-ruleset_queues number items
length-ruleset_queues number (Item.Object object.Module ps ∷ items) = length-ruleset_queues number items
length-ruleset_queues number (Item.Object object.Global ps ∷ items) = length-ruleset_queues number items
length-ruleset_queues number (Item.Call name ∷ items) = length-ruleset_queues number items
length-ruleset_queues number (Item.Test test ∷ items) = length-ruleset_queues number items

one_of : (o : Option QueueParameters) (number : ℕ) (rest : List (Option ℕ)) (later : List ActionParameters) → length rest ≡ queued later → length (if is_some o then Some number ∷ rest else rest) ≡ (if is_some o then queued later + 1 else queued later)
one_of None number rest later e = e
one_of (Some q) number rest later e = omega (arith, e)

one_more_at_most : (b : Bool) (n : ℕ) → (if b then n + 1 else n) ≤ n + 1
one_more_at_most true n = omega arith
one_more_at_most false n = omega arith

here_or_later : (b : Bool) (o : Option ℕ) (n : ℕ) → list_at_place o ≤ n → list_at_place (if b then Some 0 else one_more o) ≤ suc n
here_or_later true o n le = omega arith
here_or_later false None n le = omega arith
here_or_later false (Some p) n le = omega (arith, le)

-- how many of these actions have a queue, so many lists of actions there are
length-action_queues : (number : ℕ) (items : List Item) → length (action_queues number items) ≡ queued (actions_of items)
unfolding action_of
length-action_queues number [] = refl
length-action_queues number (Item.Action ps ∷ items) =
    one_of (own_queue (Item.Action ps)) number (action_queues (queue_after number (Item.Action ps)) items) (actions_of items)
    (length-action_queues (queue_after number (Item.Action ps)) items)
length-action_queues number (Item.Ruleset ps ∷ items) = length-action_queues (queue_after number (Item.Ruleset ps)) items
length-action_queues number (Item.Object object.Input ps ∷ items) = length-action_queues number items
length-action_queues number (Item.Object object.MainQueue ps ∷ items) = length-action_queues number items
length-action_queues number (Item.Object object.Module ps ∷ items) = length-action_queues number items
length-action_queues number (Item.Object object.Global ps ∷ items) = length-action_queues number items
length-action_queues number (Item.Call name ∷ items) = length-action_queues number items
length-action_queues number (Item.Test test ∷ items) = length-action_queues number items

pub length-list_queues : (items : List Item) → length (list_queues items) ≡ 1 + length (rulesets_of items) + queued (actions_of items)
length-list_queues items =
    omega (arith, length-append (ruleset_queues 1 items) (action_queues 1 items), length-ruleset_queues 1 items, length-action_queues 1 items)

pub queued_at_most : (actions : List ActionParameters) → queued actions ≤ length actions
queued_at_most [] = omega arith
queued_at_most (a ∷ later) = omega (arith, one_more_at_most (is_some a.queue) (queued later), queued_at_most later)

-- ---- inputs

place_exists : (name : List ℕ) (names : List (List ℕ)) → list_at_place (place_of name names) ≤ length names
place_exists name [] = omega arith
place_exists name (n ∷ names) = here_or_later (bytes_eq name n) (place_of name names) (length names) (place_exists name names)

list_of_input_exists : (all : List Item) (name : Option (List ℕ)) → list_of_input all name ≤ length (rulesets_of all)
list_of_input_exists all None = omega arith
list_of_input_exists all (Some name) = omega (arith, place_exists name (ruleset_names all), length-map (rulesets_of all) (λ r. r.name))

queue_exists : (most : ℕ) (o : Option (Option ℕ)) → 0 < most → IfSome o (Exists most) → queue_or_main o < most
queue_exists most None le e = le
queue_exists most (Some None) le e = le
queue_exists most (Some (Some q)) le e = e

abbrev pub IsBound : List Item → Input → Type 0
IsBound all i = (1 ≤ i.port) × (i.list ≤ length (rulesets_of all)) × (i.queue < length (queues_of all))

part_is_bound : (all : List Item) (i : InputParameters) → 1 ≤ i.port → IsBound all (input_part all i)
part_is_bound all i port = (
  port,
  list_of_input_exists all i.ruleset_name,
  queue_exists (length (queues_of all)) (slice_get (list_queues all) (list_of_input all i.ruleset_name)) (omega arith)
      (if_there (Exists (length (queues_of all))) (list_queues all) (list_of_input all i.ruleset_name) (list_queues_exist all)),
)

input_is_bound : (all : List Item) (x : Item) → object_faults x ≡ [] → IfSome (input_at x) (λ i. 1 ≤ i.port)
unfolding input_of
input_is_bound all (Item.Object object.Input ps) clean = (input_port ps clean).least
input_is_bound all (Item.Object object.MainQueue ps) clean = tt
input_is_bound all (Item.Object object.Module ps) clean = tt
input_is_bound all (Item.Object object.Global ps) clean = tt
input_is_bound all (Item.Ruleset ps) clean = tt
input_is_bound all (Item.Action ps) clean = tt
input_is_bound all (Item.Call name) clean = tt
input_is_bound all (Item.Test test) clean = tt

inputs_have_ports : (all items : List Item) → AreClean items → AllByRecursion (λ i. 1 ≤ i.port) (inputs_of items)
inputs_have_ports all [] clean = tt
inputs_have_ports all (x ∷ items) clean = all-cons_option (λ i. 1 ≤ i.port) (input_at x) (inputs_of items) (input_is_bound all x clean.0) (inputs_have_ports all items clean.1)

parts_are_bound : (all : List Item) (inputs : List InputParameters) → AllByRecursion (λ i. 1 ≤ i.port) inputs → AllByRecursion (IsBound all) (map (input_part all) inputs)
parts_are_bound all [] p = tt
parts_are_bound all (i ∷ inputs) p = (part_is_bound all i p.0, parts_are_bound all inputs p.1)

pub inputs_are_bound : (all : List Item) → AreClean all → AllByRecursion (IsBound all) (map (input_part all) (inputs_of all))
inputs_are_bound all clean = parts_are_bound all (inputs_of all) (inputs_have_ports all all clean)
