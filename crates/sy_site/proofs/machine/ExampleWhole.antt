-- The example's site is lawful: its plans are whole.
use Rattle.std.proofs.Common.{◌≡◌, ℕ, ◌<◌, ◌≤◌, Bool, true, false, List, [], ◌∷◌, refl, ap, arith, inr, Some, length}
use Rattle.std.specs.Prelude.{◌≢◌, IfSome}
use Rattle.std.specs.List.{All}
use Rattle.std.proofs.lemmas.List.Elements.{All-from_recursion}
use Rattle.sy_rules.specs.lists.Body.{Body, count, occurrences, size}
use Rattle.sy_rules.specs.parameters.Objects.{AreInRange, HasPort}
use Rattle.sy_rules.specs.Whole.{AreDifferent, IsLed, IsWhole, Leads, queue_at, queue_for, runs_alone, body_at}
use Rattle.sy_rules.proofs.lemmas.plan.Different.{one_differs}
use Rattle.sy_site.specs.Sites.{is_spare}
use Rattle.sy_site.specs.machine.Examples.{audit, copying_plan, example_queue, example_site, mirror_plan, waiting_plan}
use Rattle.sy_site.specs.machine.Lawful.{IsAction, IsArchive, IsInput, IsLawful}
use Rattle.sy_site.proofs.machine.Spread.{some_same}

in_range : (size mark : ℕ) (waits : Bool) → 1 ≤ size → size ≤ 1000000 → mark ≤ 1000000
    → AreInRange (record (example_queue size mark) { waits = waits })
in_range size mark waits least most m = record {
  size_least = least;
  size_most = most;
  batch_least = omega arith;
  batch_most = omega arith;
  full_delay_mark = m;
  light_delay_mark = omega arith;
  discard_mark = omega arith;
  discard_severity = omega arith;
  timeout_enqueue = omega arith;
  workers_least = omega arith;
  workers_most = omega arith;
}

pub two_differ : {A : Type 0} (x y : A) → x ≢ y → AreDifferent (x ∷ y ∷ [])
two_differ x y apart ℕ.zero ℕ.zero d l m = absurd (omega (arith, l))
two_differ x y apart ℕ.zero (ℕ.suc ℕ.zero) d l m = apart
two_differ x y apart ℕ.zero (ℕ.suc (ℕ.suc j)) d l m = absurd (omega (arith, m))
two_differ x y apart (ℕ.suc i) ℕ.zero d l m = absurd (omega (arith, l))
two_differ x y apart (ℕ.suc i) (ℕ.suc ℕ.zero) d l m = absurd (omega (arith, l))
two_differ x y apart (ℕ.suc i) (ℕ.suc (ℕ.suc j)) d l m = absurd (omega (arith, m))

longer : (x y : List ℕ) → length x ≡ 5 → length y ≡ 4 → x ≢ y
longer x y a b e = let same = ap length e in omega (arith, same, a, b)

hub_alone : (other : ℕ) → queue_at copying_plan other ≡ Some 1 → other ≡ 1
hub_alone ℕ.zero e = cc
hub_alone (ℕ.suc ℕ.zero) e = refl
hub_alone (ℕ.suc (ℕ.suc k)) e = cc

hub_led : (queue : ℕ) → 1 ≤ queue → queue < 2 → IsLed copying_plan queue
hub_led ℕ.zero least most = absurd (omega (arith, least))
hub_led (ℕ.suc ℕ.zero) least most = record { list = 1; leads = refl; alone = hub_alone }
hub_led (ℕ.suc (ℕ.suc k)) least most = absurd (omega (arith, most))

hub_own : (list : ℕ) → 0 < list → list < 2 → (action : ℕ) × (runs_alone (body_at copying_plan list) ≡ Some action)
hub_own ℕ.zero least most = absurd (omega (arith, least))
hub_own (ℕ.suc ℕ.zero) least most = (1, refl)
hub_own (ℕ.suc (ℕ.suc k)) least most = absurd (omega (arith, most))

hub_is_whole : IsWhole copying_plan
hub_is_whole = record {
  inputs_most = omega arith;
  input_ports = All-from_recursion (λ i. 1 ≤ i.port) copying_plan.inputs (omega arith, tt);
  ports_differ = one_differs _;
  input_lists = All-from_recursion (λ i. i.list ≤ 0) copying_plan.inputs (omega arith, tt);
  input_queues_are_those_of_their_lists = All-from_recursion (λ i. i.queue ≡ queue_for copying_plan i.list) copying_plan.inputs (refl, tt);
  input_queues = All-from_recursion (λ i. i.queue < 2) copying_plan.inputs (omega arith, tt);
  queues_least = omega arith;
  queues_most = omega arith;
  queue_ranges = All-from_recursion AreInRange copying_plan.queues
      (in_range 50000 48500 false (omega arith) (omega arith) (omega arith), (in_range 1000 970 false (omega arith) (omega arith) (omega arith), tt));
  workers = refl;
  workers_most = omega arith;
  worker_queues = All-from_recursion (λ queue. queue < 2) copying_plan.workers (omega arith, (omega arith, tt));
  actions_most = omega arith;
  names_differ = two_differ _ _ (longer _ _ refl refl);
  target_ports = All-from_recursion (λ a. HasPort a.destination) copying_plan.actions (tt, (omega arith, tt));
  lists_least = omega arith;
  lists_most = omega arith;
  list_names = refl;
  rulesets_before = omega arith;
  own_lists = hub_own;
  main_list = refl;
  list_queues = All-from_recursion (λ l. IfSome l.queue (λ queue. (1 ≤ queue) × (queue < 2))) copying_plan.lists (tt, ((omega arith, omega arith), tt));
  queues_are_led = hub_led;
  statements_most = All-from_recursion (λ l. size l.body ≤ 65536) copying_plan.lists (omega arith, (omega arith, tt));
  occurrences_most = All-from_recursion (λ l. count l.body ≤ 64) copying_plan.lists (omega arith, (omega arith, tt));
  occurrences_lead = All-from_recursion (λ l. All (Leads copying_plan) (occurrences l.body)) copying_plan.lists (
    All-from_recursion (Leads copying_plan) (occurrences (Body.Run 0 (Body.Post 1 Body.End))) (omega arith, (refl, tt)),
    (All-from_recursion (Leads copying_plan) (occurrences (Body.Run 1 Body.End)) (omega arith, tt), tt),
  );
}

mirror_is_whole : IsWhole mirror_plan
mirror_is_whole = record {
  inputs_most = omega arith;
  input_ports = All-from_recursion (λ i. 1 ≤ i.port) mirror_plan.inputs (omega arith, tt);
  ports_differ = one_differs _;
  input_lists = All-from_recursion (λ i. i.list ≤ 0) mirror_plan.inputs (omega arith, tt);
  input_queues_are_those_of_their_lists = All-from_recursion (λ i. i.queue ≡ queue_for mirror_plan i.list) mirror_plan.inputs (refl, tt);
  input_queues = All-from_recursion (λ i. i.queue < 1) mirror_plan.inputs (omega arith, tt);
  queues_least = omega arith;
  queues_most = omega arith;
  queue_ranges = All-from_recursion AreInRange mirror_plan.queues (in_range 50000 0 false (omega arith) (omega arith) (omega arith), tt);
  workers = refl;
  workers_most = omega arith;
  worker_queues = All-from_recursion (λ queue. queue < 1) mirror_plan.workers (omega arith, tt);
  actions_most = omega arith;
  names_differ = one_differs _;
  target_ports = All-from_recursion (λ a. HasPort a.destination) mirror_plan.actions (tt, tt);
  lists_least = omega arith;
  lists_most = omega arith;
  list_names = refl;
  rulesets_before = omega arith;
  own_lists = λ list least most. absurd (omega (arith, least, most));
  main_list = refl;
  list_queues = All-from_recursion (λ l. IfSome l.queue (λ queue. (1 ≤ queue) × (queue < 1))) mirror_plan.lists (tt, tt);
  queues_are_led = λ queue least most. absurd (omega (arith, least, most));
  statements_most = All-from_recursion (λ l. size l.body ≤ 65536) mirror_plan.lists (omega arith, tt);
  occurrences_most = All-from_recursion (λ l. count l.body ≤ 64) mirror_plan.lists (omega arith, tt);
  occurrences_lead = All-from_recursion (λ l. All (Leads mirror_plan) (occurrences l.body)) mirror_plan.lists
      (All-from_recursion (Leads mirror_plan) (occurrences (Body.Run 0 Body.End)) (omega arith, tt), tt);
}

-- each queue of edge is that of one list
edge_alone : (other queue : ℕ) → 1 ≤ queue → queue_at waiting_plan other ≡ Some queue → other ≡ queue
edge_alone ℕ.zero queue least e = cc
edge_alone (ℕ.suc ℕ.zero) queue least e = some_same e
edge_alone (ℕ.suc (ℕ.suc ℕ.zero)) queue least e = some_same e
edge_alone (ℕ.suc (ℕ.suc (ℕ.suc k))) queue least e = cc

edge_led : (queue : ℕ) → 1 ≤ queue → queue < 3 → IsLed waiting_plan queue
edge_led ℕ.zero least most = absurd (omega (arith, least))
edge_led (ℕ.suc ℕ.zero) least most = record { list = 1; leads = refl; alone = λ other e. edge_alone other 1 least e }
edge_led (ℕ.suc (ℕ.suc ℕ.zero)) least most = record { list = 2; leads = refl; alone = λ other e. edge_alone other 2 least e }
edge_led (ℕ.suc (ℕ.suc (ℕ.suc k))) least most = absurd (omega (arith, most))

edge_own : (list : ℕ) → 1 < list → list < 3 → (action : ℕ) × (runs_alone (body_at waiting_plan list) ≡ Some action)
edge_own ℕ.zero least most = absurd (omega (arith, least))
edge_own (ℕ.suc ℕ.zero) least most = absurd (omega (arith, least))
edge_own (ℕ.suc (ℕ.suc ℕ.zero)) least most = (0, refl)
edge_own (ℕ.suc (ℕ.suc (ℕ.suc k))) least most = absurd (omega (arith, most))

edge_is_whole : IsWhole waiting_plan
edge_is_whole = record {
  inputs_most = omega arith;
  input_ports = All-from_recursion (λ i. 1 ≤ i.port) waiting_plan.inputs (omega arith, tt);
  ports_differ = one_differs _;
  input_lists = All-from_recursion (λ i. i.list ≤ 1) waiting_plan.inputs (omega arith, tt);
  input_queues_are_those_of_their_lists = All-from_recursion (λ i. i.queue ≡ queue_for waiting_plan i.list) waiting_plan.inputs (refl, tt);
  input_queues = All-from_recursion (λ i. i.queue < 3) waiting_plan.inputs (omega arith, tt);
  queues_least = omega arith;
  queues_most = omega arith;
  queue_ranges = All-from_recursion AreInRange waiting_plan.queues (
    in_range 50000 48500 false (omega arith) (omega arith) (omega arith),
    (in_range 100 90 false (omega arith) (omega arith) (omega arith), (in_range 100 90 true (omega arith) (omega arith) (omega arith), tt)),
  );
  workers = refl;
  workers_most = omega arith;
  worker_queues = All-from_recursion (λ queue. queue < 3) waiting_plan.workers (omega arith, (omega arith, (omega arith, tt)));
  actions_most = omega arith;
  names_differ = one_differs _;
  target_ports = All-from_recursion (λ a. HasPort a.destination) waiting_plan.actions (omega arith, tt);
  lists_least = omega arith;
  lists_most = omega arith;
  list_names = refl;
  rulesets_before = omega arith;
  own_lists = edge_own;
  main_list = refl;
  list_queues = All-from_recursion (λ l. IfSome l.queue (λ queue. (1 ≤ queue) × (queue < 3))) waiting_plan.lists
      (tt, ((omega arith, omega arith), ((omega arith, omega arith), tt)));
  queues_are_led = edge_led;
  statements_most = All-from_recursion (λ l. size l.body ≤ 65536) waiting_plan.lists (omega arith, (omega arith, (omega arith, tt)));
  occurrences_most = All-from_recursion (λ l. count l.body ≤ 64) waiting_plan.lists (omega arith, (omega arith, (omega arith, tt)));
  occurrences_lead = All-from_recursion (λ l. All (Leads waiting_plan) (occurrences l.body)) waiting_plan.lists (
    All-from_recursion (Leads waiting_plan) (occurrences (Body.End)) tt,
    (
      All-from_recursion (Leads waiting_plan) (occurrences (Body.Post 2 Body.End)) (refl, tt),
      (All-from_recursion (Leads waiting_plan) (occurrences (Body.Run 0 Body.End)) (omega arith, tt), tt),
    ),
  );
}

audit_is_archive : IsArchive example_site audit
audit_is_archive = record { parts = _; found = refl; file = _; writes = refl }

pub example_is_lawful : IsLawful example_site
example_is_lawful = record {
  policy = inr refl;
  few = omega arith;
  entries = All-from_recursion (IsInput example_site) example_site.entries (record { parts = _; found = refl }, tt);
  plans = All-from_recursion (λ relay. IsWhole relay.plan) example_site.relays (edge_is_whole, (hub_is_whole, (mirror_is_whole, tt)));
  archives = All-from_recursion (λ p. IsArchive example_site p.archive) example_site.protections (audit_is_archive, tt);
  spares = All-from_recursion (IsAction example_site) example_site.spares (record { parts = _; found = refl }, tt);
  spare_archives = All-from_recursion (λ p. is_spare example_site p.archive ≡ false) example_site.protections (refl, tt);
}
