-- The parts of a plan by the objects that give them: what an object of each kind gives, and that the objects of a file give these parts and no others.
use Rattle.std.specs.Prelude.{◌≡◌, ℕ, ◌+◌, true, false, List, [], ◌∷◌, ◌++◌, length, replicate, Option, Some, None, unwrap_or}
use Rattle.std.specs.List.{list_any}
use Rattle.sy_script.specs.declared.tree.ObjectKind.TheVariants as object
use Rattle.sy_script.specs.declared.tree.Param.{Param}
use Rattle.sy_rules.specs.declared.parameters.kind.Kind.TheVariants as kind
use Rattle.sy_rules.specs.declared.parameters.settings.QueueParameters.{QueueParameters}
use Rattle.sy_rules.specs.declared.parts.Action.{Action}
use Rattle.sy_rules.specs.declared.parts.Input.{Input}
use Rattle.sy_rules.specs.lists.Lines.{Lines, queued, body_of}
use Rattle.sy_rules.specs.parameters.Objects.{action_of, has_queue, input_of, kind_of_action, queue_parameters, ruleset_of}
use Rattle.sy_rules.specs.items.Outline.{Item}
use Rattle.sy_rules.specs.parts.Plans.{action_name, actions_of, default_ruleset, inputs_of, queue_number, ruleset_names, rulesets_of}
use Rattle.sy_rules.specs.check.ScriptFaults.{is_among, is_main_queue}
use Rattle.sy_rules.specs.lists.Body.{Body}

-- what a list is
pub record Listed : Type 0 where
  -- its expanded text
  pub body : Body
  -- the queue that leads to it, where it has one of its own
  pub queue : Option ℕ

-- ---- objects in the order of the text

-- an item of a file, after these
pub record Stands (all before : List Item) (x : Item) : Type 0 where
  pub later : List Item
  pub whole : all ≡ before ++ x ∷ later

-- The objects after others give these parts, in the order of the text and numbered from this number on: each one part, or none.
pub data Given {X : Type 0} (Gives : List Item → Item → ℕ → X → Type 0) : ℕ → List Item → List Item → List X → Type 0 where
  End : {number : ℕ} {before : List Item} → Given Gives number before [] []
  One : {number : ℕ} {before later : List Item} {x : Item} {part : X} {parts : List X} → Gives before x number part → Given Gives (number + 1) (before ++ x ∷ []) later parts → Given Gives number before (x ∷ later) (part ∷ parts)
  Nothing : {number : ℕ} {before later : List Item} {x : Item} {parts : List X} → ((n : ℕ) (part : X) → Gives before x n part → ⊥) → Given Gives number (before ++ x ∷ []) later parts → Given Gives number before (x ∷ later) parts

-- ---- queues

-- A ruleset or an action has a queue where its queue.type says so. Its parameters are as given, or by their defaults.
abbrev pub HasQueue : Item → QueueParameters → Type 0
HasQueue (Item.Ruleset params) q = (has_queue kind.Ruleset params ≡ true) × (q ≡ queue_parameters kind.Ruleset params)
HasQueue (Item.Action params) q = (has_queue (kind_of_action params) params ≡ true) × (q ≡ queue_parameters (kind_of_action params) params)
HasQueue (Item.Object found params) q = ⊥
HasQueue (Item.Call name) q = ⊥
HasQueue (Item.Test test) q = ⊥

-- this object gives this queue: 1 and as many as there are queues before it
pub record GivesQueue (before : List Item) (x : Item) (number : ℕ) (q : QueueParameters) : Type 0 where
  pub has : HasQueue x q
  pub numbered : number ≡ queue_number before

-- The main queue is what the first object of its kind says, and by its defaults where there is none.
pub data GivesMainQueue (all : List Item) (q : QueueParameters) : Type 0 where
  Said : (before : List Item) (params : List Param) → Stands all before (Item.Object object.MainQueue params) → list_any is_main_queue before ≡ false → q ≡ queue_parameters kind.MainQueue params → GivesMainQueue all q
  Unsaid : list_any is_main_queue all ≡ false → q ≡ queue_parameters kind.MainQueue [] → GivesMainQueue all q

-- The main queue is queue 0, and those of rulesets and actions follow.
pub record GiveQueues (all : List Item) (queues : List QueueParameters) : Type 0 where
  pub main : QueueParameters
  pub others : List QueueParameters
  pub whole : queues ≡ main ∷ others
  pub is_main : GivesMainQueue all main
  pub given : Given GivesQueue 1 [] all others

-- Queues from this number on give these workers, each as many as it says.
abbrev pub GiveWorkers : ℕ → List QueueParameters → List ℕ → Type 0
GiveWorkers number [] workers = workers ≡ []
GiveWorkers number (q ∷ later) workers = (others : List ℕ) × (workers ≡ replicate q.workers number ++ others) × GiveWorkers (number + 1) later others

-- ---- actions

-- this object gives this action: as given or by the defaults of its kind, and without a name called by its number
pub record GivesAction (before : List Item) (x : Item) (number : ℕ) (a : Action) : Type 0 where
  pub params : List Param
  pub found : x ≡ Item.Action params
  pub numbered : number ≡ length (actions_of before)
  pub name : a.name ≡ action_name number (action_of (kind_of_action params) params).name
  pub destination : a.destination ≡ (action_of (kind_of_action params) params).destination
  pub retry : a.retry ≡ (action_of (kind_of_action params) params).retry
  pub resume_interval : a.resume_interval ≡ (action_of (kind_of_action params) params).resume_interval

-- ---- lists

-- the list of a ruleset after these items: 0 is the list of the statements outside every ruleset
abbrev pub list_of_ruleset : List Item → ℕ
list_of_ruleset before = 1 + length (rulesets_of before)

-- that of an action with a queue: after those of all rulesets
abbrev pub list_of_queued : List Item → List Item → ℕ
list_of_queued all before = 1 + length (rulesets_of all) + queued (actions_of before)

-- the queue of an object's own, by its number, where the object gives one
abbrev pub IsOwnQueue : List Item → Item → Option ℕ → Type 0
IsOwnQueue before x None = (n : ℕ) (q : QueueParameters) → GivesQueue before x n q → ⊥
IsOwnQueue before x (Some n) = (q : QueueParameters) × GivesQueue before x n q

-- this ruleset gives this list, where the lists of the file have these lines
pub record GivesRulesetList (lines : List Lines) (before : List Item) (x : Item) (number : ℕ) (l : Listed) : Type 0 where
  pub params : List Param
  pub found : x ≡ Item.Ruleset params
  pub numbered : number ≡ list_of_ruleset before
  pub body : l.body ≡ body_of lines number
  pub queue : IsOwnQueue before x l.queue

-- this action has a queue, and gives this list: it runs that action alone
pub record GivesActionList (all before : List Item) (x : Item) (number : ℕ) (l : Listed) : Type 0 where
  pub params : List Param
  pub found : x ≡ Item.Action params
  pub numbered : number ≡ list_of_queued all before
  pub body : l.body ≡ Body.Run (length (actions_of before)) Body.End
  pub of_queue : ℕ
  pub parameters : QueueParameters
  pub given : GivesQueue before x of_queue parameters
  pub queue : l.queue ≡ Some of_queue

-- List 0 has no queue of its own. After it come the lists of the rulesets, and then those of the actions that have a queue.
pub record GiveLists (all : List Item) (lines : List Lines) (lists : List Listed) : Type 0 where
  pub of_rulesets : List Listed
  pub of_actions : List Listed
  pub whole : lists ≡ record { body = body_of lines 0; queue = None } ∷ (of_rulesets ++ of_actions)
  pub rulesets : Given (GivesRulesetList lines) 1 [] all of_rulesets
  pub actions : Given (GivesActionList all) (1 + length of_rulesets) [] all of_actions

-- ---- inputs

-- the first ruleset of this name in a file (in a plan there is one)
pub record IsNamed (all : List Item) (name : List ℕ) (before : List Item) (params : List Param) : Type 0 where
  pub stands : Stands all before (Item.Ruleset params)
  pub named : (ruleset_of params).name ≡ name
  pub first : is_among name (ruleset_names before) ≡ false

-- Where an input goes that names this ruleset, or none: to list 0 by queue 0, or to the list of that ruleset, by its queue or else by queue 0.
pub data IsBound (all : List Item) (list queue : ℕ) : Option (List ℕ) → Type 0 where
  Unnamed : list ≡ 0 → queue ≡ 0 → IsBound all list queue None
  -- the default ruleset, whose name no other has
  Default : is_among default_ruleset (ruleset_names all) ≡ false → list ≡ 0 → queue ≡ 0 → IsBound all list queue (Some default_ruleset)
  Ruleset : {name : List ℕ} (before : List Item) (params : List Param) (own : Option ℕ) → IsNamed all name before params → IsOwnQueue before (Item.Ruleset params) own → list ≡ list_of_ruleset before → queue ≡ unwrap_or own 0 → IsBound all list queue (Some name)

-- this object gives this input, as given or by the defaults
pub record GivesInput (all before : List Item) (x : Item) (number : ℕ) (i : Input) : Type 0 where
  pub params : List Param
  pub found : x ≡ Item.Object object.Input params
  pub numbered : number ≡ length (inputs_of before)
  pub port : i.port ≡ (input_of params).port
  pub flow : i.flow ≡ (input_of params).flow
  pub bound : IsBound all i.list i.queue (input_of params).ruleset_name
  pub unread_file : i.unread_file ≡ (input_of params).unread_file
