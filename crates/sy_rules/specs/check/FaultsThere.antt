-- That a script has a fault, with its word and its place: each fault by itself, without the order in which faults are looked for. What is said
-- of two objects, or of an object and a name, is said of objects whose own parameters are without faults, so that each has the name or port that
-- is read of it.
-- Sources: the rsyslog manual's pages on the objects, on imtcp, rulesets, `call` and queue parameters; all limits are this profile's own.
use Rattle.std.specs.Prelude.{◌≡◌, ◌≤◌, ◌<◌, ◌+◌, ℕ, List, ◌∷◌, ◌++◌, length, map, sum, slice_get, Contains, Some, codes}
use Rattle.std.specs.Fmt.{decimal}
use Rattle.sy_script.specs.declared.tree.ExprTree.{ExprTree}
use Rattle.sy_script.specs.declared.tree.ObjectKind.TheVariants as object
use Rattle.sy_script.specs.declared.tree.Param.{Param}
use Rattle.sy_script.specs.declared.tree.Script.{Script}
use Rattle.sy_select.specs.declared.fault.SelectFault.{SelectFault}
use Rattle.sy_select.specs.Trees.{tree_faults}
use Rattle.sy_rules.specs.Limits.{ACTIONS, CALL_DEPTH, INPUTS, OCCURRENCES, RULESETS, STATEMENTS, WORKERS}
use Rattle.sy_rules.specs.declared.fault.FaultCode.TheVariants as code
use Rattle.sy_rules.specs.declared.fault.PlanFault.{PlanFault}
use Rattle.sy_rules.specs.declared.items.fault.ItemFault.{ItemFault}
use Rattle.sy_rules.specs.Faults.{fault, fault_at, in_text, nowhere}
use Rattle.sy_rules.specs.lists.Laws.{IsChain}
use Rattle.sy_rules.specs.lists.Lines.{Lines, lists_of, statements_of, body_of}
use Rattle.sy_rules.specs.check.ObjectFaults.{HasOwnFault, IsClean}
use Rattle.sy_rules.specs.items.Outline.{Item, Placed, items, items_of, placed_items}
use Rattle.sy_rules.specs.parameters.Values.{decimal_value, given}
use Rattle.sy_rules.specs.parts.Plans.{action_name, actions_of, default_ruleset, inputs_of, queues_of, rulesets_of}
use Rattle.sy_rules.specs.check.ScriptFaults.{Head, as_item_fault, heads_of, untested}
use Rattle.sy_rules.specs.lists.Body as body
use Rattle.sy_rules.specs.lists.Texts.{parts}

-- ---- what an item is

-- an input object; where it has no fault of its own, its `type` is imtcp
abbrev pub IsInput : Item → Type 0
IsInput (Item.Object object.Input ps) = Unit {0}
IsInput _ = ⊥

-- an input that is given this port, as a number
abbrev pub IsInputOfPort : ℕ → Item → Type 0
IsInputOfPort port (Item.Object object.Input ps) = (value : List ℕ) × (given (codes "port") ps ≡ Some value) × (decimal_value value ≡ Some port)
IsInputOfPort port _ = ⊥

-- an input that names this ruleset
abbrev pub IsBoundTo : List ℕ → Item → Type 0
IsBoundTo name (Item.Object object.Input ps) = given (codes "ruleset") ps ≡ Some name
IsBoundTo name _ = ⊥

abbrev pub IsMainQueue : Item → Type 0
IsMainQueue (Item.Object object.MainQueue ps) = Unit {0}
IsMainQueue _ = ⊥

-- a module object that loads imtcp
abbrev pub LoadsImtcp : Item → Type 0
LoadsImtcp (Item.Object object.Module ps) = given (codes "load") ps ≡ Some (codes "imtcp")
LoadsImtcp _ = ⊥

-- the head of a ruleset of this name
abbrev pub IsRuleset : List ℕ → Item → Type 0
IsRuleset name (Item.Ruleset ps) = given (codes "name") ps ≡ Some name
IsRuleset name _ = ⊥

-- an action after these items, which has this name: the one given to it, or that of its number, which counts the actions before it
abbrev pub IsAction : List Item → List ℕ → Item → Type 0
IsAction before name (Item.Action ps) = action_name (length (actions_of before)) (given (codes "name") ps) ≡ name
IsAction before name _ = ⊥

-- no item of the script is that
abbrev pub NoneIs : (Item → Type 0) → List Item → Type 0
NoneIs P all = (x : Item) → Contains all x → P x → ⊥

-- ---- faults of the items

-- `all` are the items of the script, in the order of the text, and `before` those before this one. The fault's place is that of the item, but for
-- the parameters that are given and for expressions.
pub data HasItemFault (all before : List Item) : Item → ItemFault → Type 0 where
  -- 31 to 34, and 42 with a property: the expression of an `if`, by the faults of selectors and tests
  test : (tree : ExprTree) (f : SelectFault) → Contains (tree_faults tree) f → HasItemFault all before (Item.Test tree) (as_item_fault f)
  -- 40 to 44 with a parameter: one object
  parameter : (x : Item) (f : ItemFault) → HasOwnFault x f → HasItemFault all before x f
  -- 41: a second main_queue
  main_queue : (x y : Item) → Contains before x → IsMainQueue x → IsMainQueue y → HasItemFault all before y (fault code.Duplicate (codes "main_queue"))
  -- the second of two rulesets of one name
  same_ruleset_name : (x y : Item) (name : List ℕ) → Contains before x → IsClean x → IsClean y → IsRuleset name x → IsRuleset name y
      → HasItemFault all before y (fault code.Duplicate name)
  -- a ruleset of the name of the default one
  default_name : (x : Item) → IsClean x → IsRuleset default_ruleset x → HasItemFault all before x (fault code.Duplicate default_ruleset)
  -- the second of two actions of one name
  same_action_name : (front between : List Item) (x y : Item) (name : List ℕ) → before ≡ front ++ x ∷ between → IsClean x → IsClean y
      → IsAction front name x → IsAction before name y → HasItemFault all before y (fault code.Duplicate name)
  -- 42: an input names a ruleset that isn't there
  bound : (x : Item) (name : List ℕ) → IsBoundTo name x → (name ≡ default_ruleset → ⊥) → NoneIs (IsRuleset name) all
      → HasItemFault all before x (fault code.Unknown name)
  -- a call of a ruleset that isn't there
  called : (name : List ℕ) → NoneIs (IsRuleset name) all → HasItemFault all before (Item.Call name) (fault code.Unknown name)
  -- a call of the default ruleset
  default_called : HasItemFault all before (Item.Call default_ruleset) (fault code.Unknown default_ruleset)
  -- 44: an object with as many of its kind before it as there may be
  inputs : (ps : List Param) → INPUTS ≤ length (inputs_of before) → HasItemFault all before (Item.Object object.Input ps) (fault code.Range (codes "input"))
  rulesets : (ps : List Param) → RULESETS ≤ length (rulesets_of before) → HasItemFault all before (Item.Ruleset ps) (fault code.Range (codes "ruleset"))
  actions : (ps : List Param) → ACTIONS ≤ length (actions_of before) → HasItemFault all before (Item.Action ps) (fault code.Range (codes "action"))
  -- 47: the second of two inputs of one port; the word is its number in decimal
  same_port : (x y : Item) (port : ℕ) → Contains before x → IsClean x → IsClean y → IsInputOfPort port x → IsInputOfPort port y
      → HasItemFault all before y (fault code.SamePort (decimal port))
  -- 48: an input, and imtcp loaded nowhere in the file
  not_loaded : (x : Item) → IsClean x → IsInput x → NoneIs LoadsImtcp all → HasItemFault all before x (fault code.NotLoaded (codes "imtcp"))

-- it stands in the script, after these and before those
abbrev pub StandsIn : Script → List Placed → Placed → List Placed → Type 0
StandsIn script before x later = placed_items script ≡ before ++ x ∷ later

-- ---- faults of the whole, of a script whose items have none

abbrev pub HasCleanItems : Script → Type 0
HasCleanItems script =
    (before later : List Placed) (x : Placed) (f : ItemFault) → StandsIn script before x later → HasItemFault (items script) (items_of before) x.item f → ⊥

-- the workers of all queues (rsyslog manual, "General Queue Parameters": queue.workerThreads)
abbrev pub worker_count : Script → ℕ
worker_count script = sum (map (λ q. q.workers) (queues_of (items script)))

-- the lists of its statements; what their tests say doesn't matter here
abbrev pub lists_in : Script → List Lines
lists_in script = lists_of (untested (items script)) (parts script.tops)

-- The list of this number is that of the ruleset of this head: 0 that of the default one, then those of the others in the order of the text.
abbrev pub IsListOf : Script → Head → ℕ → Type 0
IsListOf script head list = slice_get (heads_of (placed_items script)) list ≡ Some head

-- calls made at once from this list lie in one another deeper than they may: a chain of one more call
abbrev pub CallsTooDeep : Script → ℕ → Type 0
CallsTooDeep script list = (callees : List ℕ) × (length callees ≡ CALL_DEPTH + 1) × IsChain (lists_in script) list callees

-- A script has a fault, at its place in the text. Which list a call leads to, and what a queue is given, is read of items without faults.
pub data HasFault (script : Script) : PlanFault → Type 0 where
  -- of an item, at the item's place or at that of a part of it
  item : (before later : List Placed) (x : Placed) (f : ItemFault) → StandsIn script before x later → HasItemFault (items script) (items_of before) x.item f
      → HasFault script (in_text x.span f)
  -- 44: more workers than there may be, those of all queues together
  workers : HasCleanItems script → WORKERS < worker_count script → HasFault script (fault_at nowhere code.Range (codes "queue.workerThreads"))
  -- 45, with the name and the place of the ruleset whose list is expanded
  call_depth : (head : Head) (list : ℕ) → HasCleanItems script → IsListOf script head list → CallsTooDeep script list → HasFault script (fault_at head.span code.CallDepth head.name)
  -- 46, with the same: too many statements in the expanded text, calls and what replaces them among them
  statements : (head : Head) (list : ℕ) → HasCleanItems script → IsListOf script head list → (CallsTooDeep script list → ⊥) → STATEMENTS < statements_of (lists_in script) list
      → HasFault script (fault_at head.span code.TooManyDeeds head.name)
  -- too many occurrences
  occurrences : (head : Head) (list : ℕ) → HasCleanItems script → IsListOf script head list → (CallsTooDeep script list → ⊥) → OCCURRENCES < body.count (body_of (lists_in script) list)
      → HasFault script (fault_at head.span code.TooManyDeeds head.name)

abbrev pub HasNoFault : Script → Type 0
HasNoFault script = (f : PlanFault) → HasFault script f → ⊥
