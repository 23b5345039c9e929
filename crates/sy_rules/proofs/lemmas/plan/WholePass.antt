-- The plan of a pass keeps what every plan keeps.
use Rattle.std.proofs.Common.{◌≡◌, ℕ, zero, suc, ◌≤◌, ◌<◌, List, [], ◌∷◌, ◌++◌, None, map, replicate, refl, sym, ap, ◌∙◌, subst, arith}
use Rattle.std.proofs.lemmas.List.Elements.{All-from_recursion}
use Rattle.std.specs.List.{All}
use Rattle.std.specs.Option.{IfSome}
use Rattle.sy_select.specs.declared.condition.Test.{Test}
use Rattle.sy_select.specs.Truth.{Formula}
use Rattle.sy_rules.specs.declared.parameters.kind.Kind.TheVariants as kind
use Rattle.sy_rules.specs.declared.lists.occurrence.Occurrence.TheVariants as occurrence
use Rattle.sy_rules.specs.declared.plan.Plan.TheInside.{Inside}
use Rattle.sy_rules.specs.declared.lists.statement.Statement.{Statement}
use Rattle.sy_rules.specs.declared.lists.statement.Statement.TheVariants as statement
use Rattle.sy_rules.specs.parameters.Objects.{AreInRange, HasPort}
use Rattle.sy_rules.specs.PassPlan.{action, plan}
use Rattle.sy_rules.specs.internal.ClassFlows.{AreFlows}
use Rattle.sy_rules.specs.internal.PlanInside.{IsKept, plan_of}
use Rattle.sy_rules.specs.PlanValue.{Plan}
use Rattle.sy_rules.specs.lists.Body.{Body, count, occurrences, size}
use Rattle.sy_rules.specs.internal.Tables.{AreNumbered, AreTables, count_of, lines_of_tables, table_at}
use Rattle.sy_rules.specs.Whole.{IsWhole, Leads, queue_for}
use Rattle.sy_rules.proofs.lemmas.parameters.Defaults.{main_queue_is_clean, one_worker}
use Rattle.sy_rules.proofs.lemmas.plan.Different.{one_differs}
use Rattle.sy_rules.proofs.lemmas.plan.Kept.{same_made}
use Rattle.sy_rules.proofs.lemmas.lists.PlanTables.{Fits, singles_fit}
use Rattle.sy_rules.proofs.lemmas.parameters.Ranges.{queue_in_range}

pub is_whole : IsWhole plan
is_whole = record {
  inputs_most = omega arith;
  input_ports = All-from_recursion (λ i. 1 ≤ i.port) plan.inputs (omega arith, tt);
  ports_differ = one_differs 1;
  input_lists = All-from_recursion (λ i. i.list ≤ 0) plan.inputs (omega arith, tt);
  input_queues_are_those_of_their_lists = All-from_recursion (λ i. i.queue ≡ queue_for plan i.list) plan.inputs (refl, tt);
  input_queues = All-from_recursion (λ i. i.queue < 1) plan.inputs (omega arith, tt);
  queues_least = omega arith;
  queues_most = omega arith;
  queue_ranges = All-from_recursion AreInRange plan.queues (queue_in_range kind.MainQueue [] refl main_queue_is_clean, tt);
  workers = ap (λ n. replicate n 0 ++ []) (sym one_worker);
  workers_most = omega arith;
  worker_queues = All-from_recursion (λ queue. queue < 1) plan.workers (omega arith, tt);
  actions_most = omega arith;
  names_differ = one_differs action.name;
  target_ports = All-from_recursion (λ a. HasPort a.destination) plan.actions (tt, tt);
  lists_least = omega arith;
  lists_most = omega arith;
  list_names = refl;
  rulesets_before = omega arith;
  own_lists = λ list least most. absurd (omega (arith, least, most));
  main_list = refl;
  list_queues = All-from_recursion (λ l. IfSome l.queue (λ queue. (1 ≤ queue) × (queue < 1))) plan.lists (tt, tt);
  queues_are_led = λ queue least most. absurd (omega (arith, least, most));
  statements_most = All-from_recursion (λ l. size l.body ≤ 65536) plan.lists (omega arith, tt);
  occurrences_most = All-from_recursion (λ l. count l.body ≤ 64) plan.lists (omega arith, tt);
  occurrences_lead = All-from_recursion (λ l. All (Leads plan) (occurrences l.body)) plan.lists
      (All-from_recursion (Leads plan) (occurrences (Body.Run 0 Body.End)) (omega arith, tt), tt);
}

-- ---- what the code keeps of it

abbrev tables : List (List Statement)
tables = (statement.Run 0 0 ∷ []) ∷ []

numbered : (count : ℕ → ℕ) (l : ℕ) → AreNumbered count 0 (table_at tables l)
numbered count zero = (refl, tt)
numbered count (suc l) = tt

are_tables : AreTables [] tables
are_tables =
    let fit : (l : ℕ) → Fits (lines_of_tables [] tables) l = λ l. singles_fit [] tables 0 (tt, tt) l (omega arith) in
    record {
      not_deeper = λ l. (fit l).not_deeper;
      small = λ l. (fit l).small;
      few = λ l. (fit l).few;
      numbered = λ l. numbered (count_of (lines_of_tables [] tables)) l;
    }

pub same_tables : (tests : List (Formula Test)) (found : List (List Statement)) → tests ≡ [] → found ≡ tables → AreTables tests found
same_tables tests found e f = rw (e, f) are_tables

pub kept : (p : Inside) → p.inputs.items ≡ plan.inputs → p.queues.items ≡ plan.queues → p.workers.items ≡ plan.workers → p.actions.items ≡ plan.actions → p.tests.items ≡ [] → p.tables.items ≡ (statement.Run 0 0 ∷ []) ∷ []
    → p.occurrences.items ≡ (occurrence.Run 0 ∷ []) ∷ [] → p.list_queues.items ≡ None ∷ [] → p.rulesets ≡ 0 → p.names.items ≡ plan.names
    → AreFlows p.tests.items p.tables.items p.class_flows → IsKept p
kept p inputs queues workers actions tests found occurred own rulesets names flows =
    let lines : lines_of_tables p.tests.items p.tables.items ≡ lines_of_tables [] tables = ap (λ ts. lines_of_tables ts p.tables.items) tests ∙ ap (lines_of_tables []) found in
    let same : plan_of p ≡ plan = same_made _ _ _ _ _ _ _ _ _ _ _ _ _ _ _ _ inputs queues workers actions lines own rulesets names in
    record {
      whole = subst IsWhole (sym same) is_whole;
      tables = same_tables p.tests.items p.tables.items tests found;
      occurrences = occurred ∙ ap (λ (v : Plan). map (λ l. occurrences l.body) v.lists) (sym same);
      class_flows = flows;
    }
