-- A plan as a value, and the plan of a script.
use Rattle.std.specs.Prelude.{◌≡◌, ℕ, ◌+◌, List, [], ◌∷◌, length, map, Option, Some, None, slice_get}
use Rattle.std.specs.List.{filter_map}
use Rattle.sy_script.specs.declared.tree.ExprTree.{ExprTree}
use Rattle.sy_script.specs.declared.tree.Script.{Script}
use Rattle.sy_select.specs.declared.condition.Test.{Test}
use Rattle.sy_select.specs.Trees.{IsExpr}
use Rattle.sy_select.specs.Truth.{Formula}
use Rattle.sy_rules.specs.declared.parameters.objects.ActionParameters.{ActionParameters}
use Rattle.sy_rules.specs.declared.parameters.objects.InputParameters.{InputParameters}
use Rattle.sy_rules.specs.declared.parameters.settings.QueueParameters.{QueueParameters}
use Rattle.sy_rules.specs.declared.parts.Input.{Input}
use Rattle.sy_rules.specs.declared.parts.Action.{Action}
pub use Rattle.sy_rules.specs.parts.Given.{Listed}
use Rattle.sy_rules.specs.check.FaultsThere.{HasNoFault}
use Rattle.sy_rules.specs.parts.Given.{Given, GivesAction, GivesInput, GiveLists, GiveQueues, GiveWorkers}
use Rattle.sy_rules.specs.lists.Lines.{File, Lines, lists_of, body_of}
use Rattle.sy_rules.specs.items.Outline.{Item, items}
use Rattle.sy_rules.specs.parts.Plans.{inputs_of, rulesets_of, actions_of, action_name, list_names, list_of_input, list_queues, queues_of, workers_of}
use Rattle.sy_rules.specs.lists.Texts.{parts}

pub record Plan : Type 0 where
  pub inputs : List Input
  pub queues : List QueueParameters
  -- the queue of each worker
  pub workers : List ℕ
  pub actions : List Action
  pub lists : List Listed
  -- how many of the lists behind list 0 are those of rulesets; actions' own lists follow them
  pub rulesets : ℕ
  -- the name of each list
  pub names : List (List ℕ)

-- ---- the parts

abbrev pub queue_or_main : Option (Option ℕ) → ℕ
queue_or_main (Some (Some queue)) = queue
queue_or_main _ = 0

-- an input puts into the queue of its list, or else into queue 0
abbrev pub input_part : List Item → InputParameters → Input
input_part all i = record {
  port = i.port;
  flow = i.flow;
  list = list_of_input all i.ruleset_name;
  queue = queue_or_main (slice_get (list_queues all) (list_of_input all i.ruleset_name));
  unread_file = i.unread_file;
}

abbrev pub action_part : ℕ → ActionParameters → Action
action_part number a = record {
  name = action_name number a.name;
  destination = a.destination;
  retry = a.retry;
  resume_interval = a.resume_interval;
}

abbrev pub action_parts : ℕ → List ActionParameters → List Action
action_parts number [] = []
action_parts number (a ∷ later) = action_part number a ∷ action_parts (number + 1) later

-- ---- the tests

abbrev pub test_of_item : Item → Option ExprTree
test_of_item (Item.Test tree) = Some tree
test_of_item _ = None

abbrev pub AreExprs : List ExprTree → List (Formula Test) → Type 0
AreExprs [] [] = Unit {0}
AreExprs [] (x ∷ xs) = ⊥
AreExprs (t ∷ trees) [] = ⊥
AreExprs (t ∷ trees) (x ∷ xs) = IsExpr t x × AreExprs trees xs

-- ---- the plan of a script

abbrev pub file_of : List Item → List (Formula Test) → File
file_of all tests = record { rulesets = rulesets_of all; actions = actions_of all; tests = tests }

abbrev pub lines_of : Script → List (Formula Test) → List Lines
lines_of script tests = lists_of (file_of (items script) tests) (parts script.tops)

-- lists from this number on, which have these queues
abbrev pub listed_from : List Lines → ℕ → List (Option ℕ) → List Listed
listed_from lines number [] = []
listed_from lines number (queue ∷ later) = record { body = body_of lines number; queue = queue } ∷ listed_from lines (number + 1) later

-- the parts of a plan, listed item after item
pub record HasParts (script : Script) (plan : Plan) : Type 0 where
  pub tests : List (Formula Test)
  pub are_tests : AreExprs (filter_map test_of_item (items script)) tests
  pub inputs : plan.inputs ≡ map (input_part (items script)) (inputs_of (items script))
  pub queues : plan.queues ≡ queues_of (items script)
  pub workers : plan.workers ≡ workers_of (items script)
  pub actions : plan.actions ≡ action_parts 0 (actions_of (items script))
  pub lists : plan.lists ≡ listed_from (lines_of script tests) 0 (list_queues (items script))
  pub rulesets : plan.rulesets ≡ length (rulesets_of (items script))
  pub names : plan.names ≡ list_names (rulesets_of (items script)) (actions_of (items script))

-- Each part of a plan is one that an object of the script gives, at its number, and each object that gives one has it there.
pub record IsGiven (script : Script) (plan : Plan) : Type 0 where
  pub tests : List (Formula Test)
  pub are_tests : AreExprs (filter_map test_of_item (items script)) tests
  pub inputs : Given (GivesInput (items script)) 0 [] (items script) plan.inputs
  pub queues : GiveQueues (items script) plan.queues
  pub workers : GiveWorkers 0 plan.queues plan.workers
  pub actions : Given GivesAction 0 [] (items script) plan.actions
  pub lists : GiveLists (items script) (lines_of script tests) plan.lists
  pub rulesets : plan.rulesets ≡ length (rulesets_of (items script))
  pub names : plan.names ≡ list_names (rulesets_of (items script)) (actions_of (items script))

-- A script with a fault has no plan.
pub record IsPlan (script : Script) (plan : Plan) : Type 0 where
  pub clean : HasNoFault script
  pub given : IsGiven script plan
