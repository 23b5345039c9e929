-- What the check of a script keeps of its items: of all, and of those before the next one.
use Rattle.std.specs.Prelude.{◌≡◌, ℕ, ◌||◌, List, [], ◌∷◌, ◌++◌, length, map, Option, Some, None}
use Rattle.std.specs.List.{list_any}
use Rattle.sy_script.specs.declared.tree.ObjectKind.TheVariants as object
use Rattle.sy_rules.specs.declared.items.fault.ItemFault.{ItemFault}
use Rattle.sy_rules.specs.declared.check.script.Seen.{Seen}
use Rattle.sy_rules.specs.declared.check.script.Whole.{Whole}
use Rattle.sy_rules.specs.declared.parameters.settings.QueueParameters.{QueueParameters}
use Rattle.sy_rules.specs.parameters.Objects.{input_of, ruleset_of, kind_of_action, action_of}
use Rattle.sy_rules.specs.items.Outline.{Item}
use Rattle.sy_rules.specs.parts.Plans.{actions_of, action_name, action_names, names_from}
use Rattle.sy_rules.specs.check.ScriptFaults.{is_main_queue, loads_imtcp, is_among, ports_of, ruleset_names_of, second_main_queue, input_faults, ruleset_faults, action_faults, call_faults, as_item_fault}
use Rattle.sy_select.specs.Trees.{tree_faults}

-- how many workers a queue has, where there is one
abbrev pub workers_in : Option QueueParameters → ℕ
workers_in None = 0
workers_in (Some q) = q.workers

-- a set of names has the same names as a list
abbrev pub HasNames : List (List ℕ) → List (List ℕ) → Type 0
HasNames names set = (name : List ℕ) → is_among name set ≡ is_among name names

-- of all items
pub record Knows (all : List Item) (whole : Whole) : Type 0 where
  pub imtcp : whole.imtcp ≡ list_any loads_imtcp all
  pub names : HasNames (ruleset_names_of all) whole.names

-- of the items before
pub record Shows (before : List Item) (seen : Seen) : Type 0 where
  pub main_queue : seen.main_queue ≡ list_any is_main_queue before
  pub ports : seen.ports.items ≡ ports_of before
  pub rulesets : map (λ n. n.now) seen.rulesets.items ≡ ruleset_names_of before
  pub actions : seen.actions.items ≡ action_names before

-- of one item more
pub record Adds (x : Item) (old new : Seen) : Type 0 where
  pub main_queue : new.main_queue ≡ (old.main_queue || is_main_queue x)
  pub ports : new.ports.items ≡ old.ports.items ++ ports_of (x ∷ [])
  pub rulesets : map (λ n. n.now) new.rulesets.items ≡ map (λ n. n.now) old.rulesets.items ++ ruleset_names_of (x ∷ [])
  pub actions : new.actions.items ≡ old.actions.items ++ names_from (length old.actions.items) (actions_of (x ∷ []))

-- what is wrong with the next item, by what is kept
abbrev pub faults_by : Whole → Seen → Item → List ItemFault
faults_by whole seen (Item.Object object.MainQueue params) = second_main_queue seen.main_queue
faults_by whole seen (Item.Object object.Input params) = input_faults whole.imtcp whole.names seen.ports.items (input_of params)
faults_by whole seen (Item.Object object.Module params) = []
faults_by whole seen (Item.Object object.Global params) = []
faults_by whole seen (Item.Ruleset params) = ruleset_faults (map (λ n. n.now) seen.rulesets.items) (ruleset_of params).name
faults_by whole seen (Item.Action params) = action_faults seen.actions.items (action_name (length seen.actions.items) (action_of (kind_of_action params) params).name)
faults_by whole seen (Item.Call name) = call_faults whole.names name
faults_by whole seen (Item.Test test) = map as_item_fault (tree_faults test)
