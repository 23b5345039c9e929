-- What the code keeps of a plan.
use Rattle.std.specs.Prelude.{◌≡◌, filter_map, length, map}
use Rattle.sy_script.specs.declared.tree.Script.{Script}
use Rattle.sy_rules.specs.declared.plan.Plan.TheInside.{Inside}
use Rattle.sy_rules.specs.items.Outline.{items}
use Rattle.sy_rules.specs.parts.Plans.{actions_of, inputs_of, list_names, list_queues, queues_of, rulesets_of, workers_of}
use Rattle.sy_rules.specs.PlanValue.{AreExprs, Plan, action_parts, input_part, lines_of, listed_from, test_of_item}
use Rattle.sy_rules.specs.lists.Body.{occurrences}
use Rattle.sy_rules.specs.internal.ClassFlows.{AreFlows}
use Rattle.sy_rules.specs.internal.Tables.{AreTables, lines_of_tables}
use Rattle.sy_rules.specs.Whole.{IsWhole}

-- the plan whose lists have these tables
abbrev pub plan_of : Inside → Plan
plan_of p = record {
  inputs = p.inputs.items;
  queues = p.queues.items;
  workers = p.workers.items;
  actions = p.actions.items;
  lists = listed_from (lines_of_tables p.tests.items p.tables.items) 0 p.list_queues.items;
  rulesets = p.rulesets;
  names = p.names.items;
}

pub record IsKept (p : Inside) : Type 0 where
  pub whole : IsWhole (plan_of p)
  pub tables : AreTables p.tests.items p.tables.items
  pub occurrences : p.occurrences.items ≡ map (λ l. occurrences l.body) (plan_of p).lists
  pub class_flows : AreFlows p.tests.items p.tables.items p.class_flows

-- These are the parts of the plan of a script.
pub record AreParts (script : Script) (p : Inside) : Type 0 where
  pub inputs : p.inputs.items ≡ map (input_part (items script)) (inputs_of (items script))
  pub queues : p.queues.items ≡ queues_of (items script)
  pub workers : p.workers.items ≡ workers_of (items script)
  pub actions : p.actions.items ≡ action_parts 0 (actions_of (items script))
  pub rulesets : p.rulesets ≡ length (rulesets_of (items script))
  pub names : p.names.items ≡ list_names (rulesets_of (items script)) (actions_of (items script))
  pub own_queues : p.list_queues.items ≡ list_queues (items script)
  pub tests : AreExprs (filter_map test_of_item (items script)) p.tests.items
  pub lines : lines_of_tables p.tests.items p.tables.items ≡ lines_of script p.tests.items
  pub tables : AreTables p.tests.items p.tables.items
  pub occurrences : p.occurrences.items ≡ map (λ l. occurrences l.body) (listed_from (lines_of script p.tests.items) 0 (list_queues (items script)))
  pub class_flows : AreFlows p.tests.items p.tables.items p.class_flows
