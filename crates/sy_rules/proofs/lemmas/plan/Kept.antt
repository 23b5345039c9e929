-- The parts of the plan of a script without faults are kept, and make that plan.
use Rattle.std.proofs.Common.{◌≡◌, ℕ, ◌≤◌, List, [], Option, map, refl, sym, ap, ◌∙◌, subst}
use Rattle.sy_script.specs.declared.tree.Script.{Script}
use Rattle.sy_select.specs.declared.condition.Test.{Test}
use Rattle.sy_select.specs.Truth.{Formula}
use Rattle.sy_rules.specs.declared.parameters.objects.ActionParameters.{ActionParameters}
use Rattle.sy_rules.specs.declared.parameters.objects.RulesetParameters.{RulesetParameters}
use Rattle.sy_rules.specs.declared.parameters.settings.QueueParameters.{QueueParameters}
use Rattle.sy_rules.specs.declared.parts.Action.{Action}
use Rattle.sy_rules.specs.declared.parts.Input.{Input}
use Rattle.sy_rules.specs.declared.plan.Plan.TheInside.{Inside}
use Rattle.sy_rules.specs.lists.Lines.{Lines, statements_of}
use Rattle.sy_rules.specs.items.Outline.{items}
use Rattle.sy_rules.specs.parts.Plans.{list_names, list_queues}
use Rattle.sy_rules.specs.declared.lists.class_flows.ClassFlows.{ClassFlows}
use Rattle.sy_rules.specs.declared.lists.statement.Statement.{Statement}
use Rattle.sy_rules.specs.internal.ClassFlows.{AreFlows}
use Rattle.sy_rules.specs.internal.PlanInside.{AreParts, IsKept, plan_of}
use Rattle.sy_rules.specs.PlanValue.{HasParts, Plan, lines_of, listed_from}
use Rattle.sy_rules.specs.check.ScriptFaults.{too_many_workers}
use Rattle.sy_rules.specs.internal.Checking.{faults_after}
use Rattle.sy_rules.specs.lists.Body.{occurrences}
use Rattle.sy_rules.specs.internal.Tables.{count_of}
use Rattle.sy_rules.specs.Whole.{IsWhole}
use Rattle.sy_rules.proofs.lemmas.plan.WholePlans.{is_whole, plan_from}

abbrev pub made : List Input → List QueueParameters → List ℕ → List Action → List Lines → List (Option ℕ) → ℕ → List (List ℕ) → Plan
made inputs queues workers actions lines list_queues rulesets names = record { inputs = inputs; queues = queues; workers = workers; actions = actions; lists = listed_from lines 0 list_queues; rulesets = rulesets; names = names }

pub same_made : (i j : List Input) (q r : List QueueParameters) (w v : List ℕ) (a b : List Action) (l m : List Lines) (p o : List (Option ℕ)) (s t : ℕ) (n k : List (List ℕ)) → i ≡ j → q ≡ r → w ≡ v → a ≡ b → l ≡ m → p ≡ o → s ≡ t → n ≡ k → made i q w a l p s n ≡ made j r v b m o t k
same_made i j q r w v a b l m p o s t n k ei eq ew ea el ep es en = rw (ei, eq, ew, ea, el, ep, es, en) refl

same_listed : (l m : List Lines) (p o : List (Option ℕ)) → l ≡ m → p ≡ o → listed_from l 0 p ≡ listed_from m 0 o
same_listed l m p o el ep = rw (el, ep) refl

small_in : (l m : List Lines) → l ≡ m → ((k : ℕ) → statements_of l k ≤ 65536) → (k : ℕ) → statements_of m k ≤ 65536
small_in l m e h = subst (λ x. (k : ℕ) → statements_of x k ≤ 65536) e h

few_in : (l m : List Lines) → l ≡ m → ((k : ℕ) → count_of l k ≤ 64) → (k : ℕ) → count_of m k ≤ 64
few_in l m e h = subst (λ x. (k : ℕ) → count_of x k ≤ 64) e h

pub kept : (script : Script) (p : Inside) → AreParts script p → faults_after (items script) [] (items script) ≡ [] → too_many_workers (items script) ≡ [] → IsKept p
kept script p parts clean workers =
    let whole = is_whole script p.tests.items clean workers (small_in _ _ parts.lines parts.tables.small) (few_in _ _ parts.lines parts.tables.few) in
    let same : plan_of p ≡ plan_from (items script) (lines_of script p.tests.items) = same_made _ _ _ _ _ _ _ _ _ _ _ _ _ _ _ _ parts.inputs parts.queues parts.workers parts.actions parts.lines parts.own_queues parts.rulesets parts.names in
    record {
      whole = subst IsWhole (sym same) whole;
      tables = parts.tables;
      occurrences = parts.occurrences ∙ ap (map (λ l. occurrences l.body)) (sym (same_listed _ _ _ _ parts.lines parts.own_queues));
      class_flows = parts.class_flows;
    }

pub is_plan : (script : Script) (p : Inside) → AreParts script p → HasParts script (plan_of p)
is_plan script p parts = record {
  tests = p.tests.items;
  are_tests = parts.tests;
  inputs = parts.inputs;
  queues = parts.queues;
  workers = parts.workers;
  actions = parts.actions;
  lists = same_listed _ _ _ _ parts.lines parts.own_queues;
  rulesets = parts.rulesets;
  names = parts.names;
}

pub listed_same : (script : Script) (tests : List (Formula Test)) (p o : List (Option ℕ)) → p ≡ o → map (λ l. occurrences l.body) (listed_from (lines_of script tests) 0 p) ≡ map (λ l. occurrences l.body) (listed_from (lines_of script tests) 0 o)
listed_same script tests p o e = ap (λ q. map (λ l. occurrences l.body) (listed_from (lines_of script tests) 0 q)) e

pub same_names : (r s : List RulesetParameters) (a b : List ActionParameters) → r ≡ s → a ≡ b → list_names r a ≡ list_names s b
same_names r s a b e f = ap (λ x. list_names x a) e ∙ ap (list_names s) f

pub flows_of_same : (tests ts : List (Formula Test)) (tables tbs : List (List Statement)) (flows : ClassFlows) → tests ≡ ts → tables ≡ tbs → AreFlows tests tables flows → AreFlows ts tbs flows
flows_of_same tests ts tables tbs flows e f h = subst (λ x. AreFlows x tbs flows) e (subst (λ x. AreFlows tests x flows) f h)
