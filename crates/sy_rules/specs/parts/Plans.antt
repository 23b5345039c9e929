-- The parts of a plan, by the items of the text: which object gives which input, queue, worker, action and list, and their numbers.
use Rattle.std.specs.Prelude.{ℕ, ◌+◌, Bool, true, false, if◌then◌else◌, List, [], ◌∷◌, ◌++◌, length, map, Option, Some, None, is_some, replicate, codes}
use Rattle.std.specs.Fmt.{decimal}
use Rattle.std.specs.List.{filter_map}
use Rattle.std.specs.Str.{bytes_eq}
use Rattle.sy_script.specs.declared.tree.ObjectKind.TheVariants as object
use Rattle.sy_script.specs.declared.tree.Param.{Param}
use Rattle.sy_rules.specs.declared.parameters.kind.Kind.TheVariants as kind
use Rattle.sy_rules.specs.declared.parameters.objects.ActionParameters.{ActionParameters}
use Rattle.sy_rules.specs.declared.parameters.objects.InputParameters.{InputParameters}
use Rattle.sy_rules.specs.declared.parameters.objects.RulesetParameters.{RulesetParameters}
use Rattle.sy_rules.specs.declared.parameters.settings.QueueParameters.{QueueParameters}
use Rattle.sy_rules.specs.parameters.Objects.{input_of, ruleset_of, kind_of_action, action_of, queue_parameters}
use Rattle.sy_rules.specs.items.Outline.{Item}

-- ---- what an item gives

abbrev pub input_at : Item → Option InputParameters
input_at (Item.Object object.Input ps) = Some (input_of ps)
input_at _ = None

abbrev pub ruleset_at : Item → Option RulesetParameters
ruleset_at (Item.Ruleset ps) = Some (ruleset_of ps)
ruleset_at _ = None

abbrev pub action_at : Item → Option ActionParameters
action_at (Item.Action ps) = Some (action_of (kind_of_action ps) ps)
action_at _ = None

-- the queue of a ruleset or an action
abbrev pub own_queue : Item → Option QueueParameters
own_queue (Item.Ruleset ps) = (ruleset_of ps).queue
own_queue (Item.Action ps) = (action_of (kind_of_action ps) ps).queue
own_queue _ = None

abbrev pub main_queue_at : Item → Option (List Param)
main_queue_at (Item.Object object.MainQueue ps) = Some ps
main_queue_at _ = None

-- ---- inputs, rulesets and actions, numbered from 0 in the order of the text

abbrev pub inputs_of : List Item → List InputParameters
inputs_of items = filter_map input_at items

abbrev pub rulesets_of : List Item → List RulesetParameters
rulesets_of items = filter_map ruleset_at items

abbrev pub actions_of : List Item → List ActionParameters
actions_of items = filter_map action_at items

-- an action without a name is called by its number
abbrev pub action_name : ℕ → Option (List ℕ) → List ℕ
action_name number (Some name) = name
action_name number None = codes "action-" ++ decimal number

abbrev pub names_from : ℕ → List ActionParameters → List (List ℕ)
names_from number [] = []
names_from number (a ∷ later) = action_name number a.name ∷ names_from (number + 1) later

abbrev pub action_names : List Item → List (List ℕ)
action_names items = names_from 0 (actions_of items)

-- ---- queues: the main queue is queue 0, and those of rulesets and actions follow in the order of the text

-- what the first main_queue object says; without one, nothing is given
abbrev pub first_params : List (List Param) → List Param
first_params [] = []
first_params (ps ∷ later) = ps

abbrev pub main_queue_of : List Item → QueueParameters
main_queue_of items = queue_parameters kind.MainQueue (first_params (filter_map main_queue_at items))

abbrev pub queues_of : List Item → List QueueParameters
queues_of items = main_queue_of items ∷ filter_map own_queue items

-- the number of the queue that an item after these gives
abbrev pub queue_number : List Item → ℕ
queue_number before = length (filter_map own_queue before) + 1

-- the queue of each worker, numbered through the queues
abbrev pub workers_from : ℕ → List QueueParameters → List ℕ
workers_from number [] = []
workers_from number (q ∷ later) = replicate q.workers number ++ workers_from (number + 1) later

abbrev pub workers_of : List Item → List ℕ
workers_of items = workers_from 0 (queues_of items)

-- ---- lists: 0 is that of the statements outside every ruleset; then those of the rulesets, then one for each action with a queue

abbrev pub one_more : Option ℕ → Option ℕ
one_more None = None
one_more (Some n) = Some (n + 1)

-- the place of a name among names, counted from 0
abbrev pub place_of : List ℕ → List (List ℕ) → Option ℕ
place_of name [] = None
place_of name (n ∷ names) = if bytes_eq name n then Some 0 else one_more (place_of name names)

abbrev pub default_ruleset : List ℕ
default_ruleset = codes "RSYSLOG_DefaultRuleset"

-- the names of the actions that have a queue, where so many actions stand before
abbrev pub queued_names : ℕ → List ActionParameters → List (List ℕ)
queued_names number [] = []
queued_names number (a ∷ later) = if is_some a.queue then action_name number a.name ∷ queued_names (number + 1) later else queued_names (number + 1) later

-- the list of the ruleset that this name means: the default one, or one of the file (in a plan there is one)
abbrev pub list_at_place : Option ℕ → ℕ
list_at_place None = 0
list_at_place (Some place) = place + 1

abbrev pub names_of : List RulesetParameters → List (List ℕ)
names_of rulesets = map (λ r. r.name) rulesets

abbrev pub ruleset_names : List Item → List (List ℕ)
ruleset_names items = names_of (rulesets_of items)

-- the names of all lists: the default ruleset's, those of the rulesets, and those of the actions that have a queue
abbrev pub list_names : List RulesetParameters → List ActionParameters → List (List ℕ)
list_names rulesets actions = default_ruleset ∷ (names_of rulesets ++ queued_names 0 actions)

abbrev pub list_of_input : List Item → Option (List ℕ) → ℕ
list_of_input items None = 0
list_of_input items (Some name) = list_at_place (place_of name (ruleset_names items))

-- ---- the queue of each list, where it has one of its own

abbrev pub is_ruleset : Item → Bool
is_ruleset (Item.Ruleset params) = true
is_ruleset _ = false

-- the queue that an item gives, where queues with smaller numbers than this stand before it
abbrev pub queue_here : ℕ → Item → Option ℕ
queue_here number x = if is_some (own_queue x) then Some number else None

abbrev pub queue_after : ℕ → Item → ℕ
queue_after number x = if is_some (own_queue x) then number + 1 else number

-- one for each ruleset
abbrev pub ruleset_queues : ℕ → List Item → List (Option ℕ)
ruleset_queues number [] = []
ruleset_queues number (x ∷ later) =
    if is_ruleset x then queue_here number x ∷ ruleset_queues (queue_after number x) later else ruleset_queues (queue_after number x) later

abbrev pub is_queued_action : Item → Bool
is_queued_action (Item.Action params) = is_some (own_queue (Item.Action params))
is_queued_action _ = false

-- one for each action that has a queue
abbrev pub action_queues : ℕ → List Item → List (Option ℕ)
action_queues number [] = []
action_queues number (x ∷ later) =
    if is_queued_action x then Some number ∷ action_queues (queue_after number x) later else action_queues (queue_after number x) later

-- those of all lists; the default ruleset has none of its own
abbrev pub list_queues : List Item → List (Option ℕ)
list_queues items = None ∷ (ruleset_queues 1 items ++ action_queues 1 items)
