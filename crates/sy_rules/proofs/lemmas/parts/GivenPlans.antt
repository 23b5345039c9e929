-- What objects give and what is listed item after item are the same parts.
use Rattle.std.proofs.Common.{◌≡◌, ℕ, ◌+◌, List, [], ◌∷◌, ◌++◌, length, Option, None, refl, sym, ap, ◌∙◌, subst, arith}
use Rattle.std.specs.List.{filter_map}
use Rattle.sy_script.specs.declared.tree.Script.{Script}
use Rattle.sy_select.specs.declared.condition.Test.{Test}
use Rattle.sy_select.specs.Truth.{Formula}
use Rattle.sy_rules.specs.declared.parameters.settings.QueueParameters.{QueueParameters}
use Rattle.sy_rules.specs.parts.Given.{Given, GivesAction, GivesActionList, GivesInput, GivesQueue, GivesRulesetList, GiveLists, GiveQueues, GiveWorkers, Listed}
use Rattle.sy_rules.specs.lists.Lines.{Lines, body_of}
use Rattle.sy_rules.specs.items.Outline.{Item, items}
use Rattle.sy_rules.specs.parts.Plans.{action_queues, list_queues, main_queue_of, own_queue, queues_of, ruleset_queues, rulesets_of, workers_from}
use Rattle.sy_rules.specs.internal.Checking.{faults_after}
use Rattle.sy_rules.specs.PlanValue.{HasParts, IsGiven, Plan, lines_of, listed_from}
use Rattle.sy_rules.proofs.lemmas.parts.GivenInputs.{inputs_given, same_input}
use Rattle.sy_rules.proofs.lemmas.parts.GivenItems.{same_queue}
use Rattle.sy_rules.proofs.lemmas.parts.GivenLists.{actions_given, rulesets_given, same_action_list, same_ruleset_list}
use Rattle.sy_rules.proofs.lemmas.parts.GivenParts.{one_list}
use Rattle.sy_rules.proofs.lemmas.parts.GivenQueues as of
use Rattle.sy_rules.proofs.lemmas.parts.GivenQueues.{main_given, one_main, one_workers, queues_given, same_action, workers_given}
use Rattle.sy_rules.proofs.lemmas.parts.Listed.{length-listed_from}
use Rattle.sy_rules.proofs.lemmas.parts.WholeItems.{length-ruleset_queues}

listed-append : (lines : List Lines) (number m : ℕ) (xs ys : List (Option ℕ)) → m ≡ number + length xs → listed_from lines number (xs ++ ys) ≡ listed_from lines number xs ++ listed_from lines m ys
listed-append lines number m [] ys e =
    let same : m ≡ number = omega (arith, e) in
    rw same refl
listed-append lines number m (x ∷ xs) ys e = ap (λ (ls : List Listed). record { body = body_of lines number; queue = x } ∷ ls) (listed-append lines (number + 1) m xs ys (omega (arith, e)))

-- ---- given by objects

queues_by_objects : (all : List Item) → GiveQueues all (queues_of all)
queues_by_objects all = record { main = main_queue_of all; others = filter_map own_queue all; whole = refl; is_main = main_given all; given = queues_given all }

as_many : (lines : List Lines) (all : List Item) → length (listed_from lines 1 (ruleset_queues 1 all)) ≡ length (rulesets_of all)
as_many lines all = length-listed_from lines 1 (ruleset_queues 1 all) ∙ length-ruleset_queues 1 all

lists_by_objects : (script : Script) (tests : List (Formula Test)) → GiveLists (items script) (lines_of script tests) (listed_from (lines_of script tests) 0 (list_queues (items script)))
lists_by_objects script tests =
    let all = items script in
    let lines = lines_of script tests in
    let rulesets = listed_from lines 1 (ruleset_queues 1 all) in
    let first = 1 + length (rulesets_of all) in
    record {
      of_rulesets = rulesets;
      of_actions = listed_from lines first (action_queues 1 all);
      whole = ap (λ (ls : List Listed). record { body = body_of lines 0; queue = None } ∷ ls) (listed-append lines 1 first (ruleset_queues 1 all) (action_queues 1 all) (omega (arith, length-ruleset_queues 1 all)));
      rulesets = rulesets_given lines all;
      actions = subst (λ n. Given (GivesActionList all) (1 + n) [] all (listed_from lines first (action_queues 1 all))) (sym (as_many lines all)) (actions_given script tests);
    }

pub is_given : (script : Script) (plan : Plan) → faults_after (items script) [] (items script) ≡ [] → HasParts script plan → IsGiven script plan
is_given script plan clean p =
    let all = items script in
    record {
      tests = p.tests;
      are_tests = p.are_tests;
      inputs = subst (Given (GivesInput all) 0 [] all) (sym p.inputs) (inputs_given all clean);
      queues = subst (GiveQueues all) (sym p.queues) (queues_by_objects all);
      workers = subst (λ qs. GiveWorkers 0 qs plan.workers) (sym p.queues) (subst (GiveWorkers 0 (queues_of all)) (sym p.workers) (workers_given 0 (queues_of all)));
      actions = subst (Given GivesAction 0 [] all) (sym p.actions) (of.actions_given all);
      lists = subst (GiveLists all (lines_of script p.tests)) (sym p.lists) (lists_by_objects script p.tests);
      rulesets = p.rulesets;
      names = p.names;
    }

-- ---- and no others

one_queues : (all : List Item) (qs : List QueueParameters) → GiveQueues all qs → qs ≡ queues_of all
one_queues all qs g =
    g.whole
    ∙ (ap (λ q. q ∷ g.others) (one_main all g.main g.is_main)
    ∙ ap (λ others. main_queue_of all ∷ others) (one_list GivesQueue same_queue 1 [] all g.others (filter_map own_queue all) g.given (queues_given all)))

one_lists : (all : List Item) (lines : List Lines) (ls ms : List Listed) → GiveLists all lines ls → GiveLists all lines ms → ls ≡ ms
one_lists all lines ls ms g h =
    let rulesets = one_list (GivesRulesetList lines) (same_ruleset_list lines) 1 [] all g.of_rulesets h.of_rulesets g.rulesets h.rulesets in
    let moved = subst (λ (rs : List Listed). Given (GivesActionList all) (1 + length rs) [] all g.of_actions) rulesets g.actions in
    let actions = one_list (GivesActionList all) (same_action_list all) (1 + length h.of_rulesets) [] all g.of_actions h.of_actions moved h.actions in
    let outside : Listed = record { body = body_of lines 0; queue = None } in
    g.whole ∙ (ap (λ rs. outside ∷ (rs ++ g.of_actions)) rulesets ∙ (ap (λ xs. outside ∷ (h.of_rulesets ++ xs)) actions ∙ sym h.whole))

pub has_parts : (script : Script) (plan : Plan) → faults_after (items script) [] (items script) ≡ [] → IsGiven script plan → HasParts script plan
has_parts script plan clean g =
    let all = items script in
    let same = one_queues all plan.queues g.queues in
    record {
      tests = g.tests;
      are_tests = g.are_tests;
      inputs = one_list (GivesInput all) (same_input all) 0 [] all plan.inputs _ g.inputs (inputs_given all clean);
      queues = same;
      workers = one_workers 0 plan.queues plan.workers g.workers ∙ ap (workers_from 0) same;
      actions = one_list GivesAction same_action 0 [] all plan.actions _ g.actions (of.actions_given all);
      lists = one_lists all (lines_of script g.tests) plan.lists _ g.lists (lists_by_objects script g.tests);
      rulesets = g.rulesets;
      names = g.names;
    }
