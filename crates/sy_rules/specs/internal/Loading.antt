-- What is gathered of a script on the way to its plan.
use Rattle.std.specs.Prelude.{◌≡◌, ℕ, List, Option, map, filter_map}
use Rattle.sy_script.specs.declared.tree.Script.{Script}
use Rattle.sy_select.specs.declared.condition.Test.{Test}
use Rattle.sy_select.specs.Truth.{Formula}
use Rattle.sy_rules.specs.declared.fault.PlanFault.{PlanFault}
use Rattle.sy_rules.specs.declared.plan.gathered.Gathered.{Gathered}
use Rattle.sy_rules.specs.declared.plan.gathered.Lists.{Lists}
use Rattle.sy_rules.specs.lists.Lines.{lists_of}
use Rattle.sy_rules.specs.items.Outline.{Item, items, placed_items}
use Rattle.sy_rules.specs.parts.Plans.{actions_of, inputs_of, list_queues, queues_of, rulesets_of, workers_of}
use Rattle.sy_rules.specs.PlanValue.{AreExprs, input_part, lines_of, listed_from, test_of_item}
use Rattle.sy_rules.specs.check.ScriptFaults.{faults_of_lists, heads_of, untested}
use Rattle.sy_rules.specs.lists.Body.{occurrences}
use Rattle.sy_rules.specs.internal.Tables.{AreTables, lines_of_tables}
use Rattle.sy_rules.specs.lists.Texts.{parts}

-- of these items
pub record IsGathered (all : List Item) (g : Gathered) : Type 0 where
  pub rulesets : g.rulesets.items ≡ rulesets_of all
  pub actions : g.actions.items ≡ actions_of all
  pub inputs : g.inputs.items ≡ map (input_part all) (inputs_of all)
  pub queues : g.queues.items ≡ queues_of all
  pub workers : g.workers.items ≡ workers_of all
  pub list_queues : g.list_queues.items ≡ list_queues all
  pub tests : AreExprs (filter_map test_of_item all) g.tests.items

-- ---- lists

-- what is wrong with the lists of a script
abbrev pub faults_of_its_lists : Script → List PlanFault
faults_of_its_lists script = faults_of_lists (lists_of (untested (items script)) (parts script.tops)) 0 (heads_of (placed_items script))

-- the lists of a script that has these tests, and whose lists have these queues
pub record AreLists (script : Script) (tests : List (Formula Test)) (queues : List (Option ℕ)) (l : Lists) : Type 0 where
  pub lines : lines_of_tables tests l.tables.items ≡ lines_of script tests
  pub tables : AreTables tests l.tables.items
  pub occurrences : l.occurrences.items ≡ map (λ k. occurrences k.body) (listed_from (lines_of script tests) 0 queues)
