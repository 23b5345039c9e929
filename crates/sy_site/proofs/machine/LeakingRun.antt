-- Runs in which a post into a queue that waits is lost.
use Rattle.std.proofs.Common.{◌≡◌, ℕ, true, false, [], ◌∷◌, refl, sym, subst, arith, inl, inr}
use Rattle.std.specs.Prelude.{◌≢◌}
use Rattle.std.proofs.lemmas.Bool.Decides.{nat_tests}
use Rattle.sy_wire.specs.declared.class.Class.{Class}
use Rattle.sy_chain.specs.Entries.{Entry}
use Rattle.sy_marks.specs.Marks.{discards}
use Rattle.sy_rules.specs.declared.lists.occurrence.Occurrence.TheVariants as occurrence
use Rattle.sy_rules.specs.declared.parameters.settings.QueueParameters.{QueueParameters}
use Rattle.sy_rules.specs.PlanValue.{Plan}
use Rattle.sy_rules.proofs.lemmas.plan.Different.{one_differs}
use Rattle.sy_board.specs.relay.Cells as cells
use Rattle.sy_board.specs.relay.Cells.{Cell, RelayState, set_cell, set_failures, hand}
use Rattle.sy_board.specs.relay.Plans.{marks_at}
use Rattle.sy_board.specs.relay.Steps.{Cause, Enters, Event, Grabs, HasRoom, Job, LosesPost, Posts, Takes}
use Rattle.sy_site.specs.Sites.{Site}
use Rattle.sy_site.specs.machine.States.{Arrival, Copy, SiteState, opening, with_relay}
use Rattle.sy_site.specs.machine.Steps.{Runs, SiteEvent, SiteStep}
use Rattle.sy_site.specs.machine.Safety.{IsWrittenOrHeads, forwards, writes}
use Rattle.sy_site.specs.machine.Examples.{audit, edge_input, example_message, hub_input}
use Rattle.sy_site.specs.machine.Counterexamples.{Holds, Part, discarding_queue, leaking_events, leaking_plan, leaking_site, unmarked_queue}
use Rattle.sy_site.proofs.machine.DueSets.{both_due, first_due, lowest_of_both, second_of_both}
use Rattle.sy_site.proofs.machine.ExampleSound.{only_audit_is_named}
use Rattle.sy_site.proofs.machine.Parts.{of_one, one_trail}

-- a queue with a message in it discards each
discards_all : (severity : ℕ) → discards (marks_at (leaking_plan discarding_queue) 2) severity 1 ≡ true
discards_all severity = grind (arith, nat_tests)

module _ (class : Class) where
  abbrev node : ℕ → ℕ → Entry
  node list due = record { message = example_message class; list = list; input = 0; due = due; tag = 0 }

  abbrev pub copy : Copy
  copy = record { number = 0; message = example_message class; origin = edge_input; trail = 0 ∷ []; flag = false }

  abbrev arrival : Arrival
  arrival = record { message = example_message class; origin = edge_input }

  abbrev r0 : RelayState
  r0 = cells.opening (leaking_plan unmarked_queue)

  abbrev r1 : RelayState
  r1 = set_cell r0 (hand 0 0) (node 1 3 ∷ [])

  abbrev r2 : RelayState
  r2 = set_cell (set_cell r1 (hand 0 0) []) (Cell.Queue 1) (node 1 3 ∷ [])

  abbrev r3 : RelayState
  r3 = set_cell (set_cell r2 (Cell.Queue 1) []) (Cell.Worker 1) (node 1 3 ∷ [])

  abbrev r4 : RelayState
  r4 = set_cell (set_failures (set_cell r3 (Cell.Worker 1) (node 1 2 ∷ [])) 1 0) (Cell.Queue 2) (node 2 1 ∷ [])

  abbrev r5 : RelayState
  r5 = set_failures (set_cell r4 (Cell.Worker 1) []) 1 0

  -- ---- to the second post, whichever queue that is

  module _ (queue : QueueParameters) (room : HasRoom (leaking_plan queue) r3 2)
      (kept : discards (marks_at (leaking_plan queue) 2) class.severity 0 ≡ false) where
    abbrev plan : Plan
    plan = leaking_plan queue

    abbrev site : Site
    site = leaking_site queue

    takes1 : Takes plan r0 0 0 (node 1 3) false r1
    takes1 = record {
      there =
          (omega arith, omega arith);
      made = record { input_is = refl; list = refl; due = both_due };
      free = refl;
      discarded = refl;
      after = refl;
    }

    enters2 : Enters plan r1 0 0 (node 1 3) r2
    enters2 = record { leaves = record { there = (omega arith, omega arith); held = refl; not_held = refl }; room = omega arith; after = refl }

    grabs3 : Grabs plan r2 1 [] r3
    grabs3 = record { there = omega arith; idle = refl; some = omega arith; lost_are = refl; after = refl }

    posts4 : Posts plan r3 1 2 (node 2 1) false r4
    posts4 = record {
      job = record { there = omega arith; entry = node 1 3; others = []; held = refl; number = 0; left = 2; first = lowest_of_both; found = refl };
      made = record { message = refl; list_is = refl; input = refl; tag = refl; due = first_due };
      discarded = kept;
      room = inr room;
      after = refl;
    }

    abbrev pub job5 : Job plan r4 1 (occurrence.Post 2)
    job5 = record { there = omega arith; entry = node 1 2; others = []; held = refl; number = 1; left = 0; first = second_of_both; found = refl }

    abbrev s0 : SiteState
    s0 = opening site

    abbrev s1 : SiteState
    s1 = record { relays = with_relay s0.relays 0 r1; copies = copy ∷ []; passed = λ a. []; losses = []; arrivals = arrival ∷ [] }

    abbrev s2 : SiteState
    s2 = record s1 { relays = with_relay s1.relays 0 r2 }

    abbrev s3 : SiteState
    s3 = record s2 { relays = with_relay s2.relays 0 r3 }

    abbrev pub s4 : SiteState
    s4 = record s3 { relays = with_relay s3.relays 0 r4 }

    abbrev pub s5 : Cause → SiteState
    s5 cause = record s4 { relays = with_relay s4.relays 0 r5; losses = record { copy = 0; relay = 0; list = 1; cause = cause } ∷ [] }

    step1 : SiteStep site s0 (SiteEvent.TakeNew edge_input 0 (example_message class)) s1
    step1 = record { node = node 1 3; message = refl; tag = refl; step = record { state = r1; outs = []; step = (false, takes1, refl); after = refl } }

    step2 : SiteStep site s1 (SiteEvent.Inside 0 (Event.Enter 0 0)) s2
    step2 = ((λ h. h), record { state = r2; outs = []; step = (node 1 3, enters2, refl); after = refl })

    step3 : SiteStep site s2 (SiteEvent.Inside 0 (Event.Grab 1)) s3
    step3 = ((λ h. h), record { state = r3; outs = []; step = ([], grabs3, refl); after = refl })

    step4 : SiteStep site s3 (SiteEvent.Inside 0 (Event.Post 1)) s4
    step4 = ((λ h. h), record { state = r4; outs = []; step = (2, node 2 1, false, posts4, refl); after = refl })

    leaking_run : (last : Event) (end : SiteState) → SiteStep site s4 (SiteEvent.Inside 0 last) end → Runs site (leaking_events class last) end
    leaking_run last end step5 = (s1, step1, (s2, step2, (s3, step3, (s4, step4, (end, step5, refl)))))

    -- ---- behind its loss

    heads : (cause : Cause) → IsWrittenOrHeads site (s5 cause) audit 0
    heads cause = inr (inl (record {
      relay = 0;
      cell = Cell.Queue 2;
      entry = node 2 1;
      there = (0, omega arith, refl);
      copy = record { copy = copy; is = refl; numbered = refl };
      plain = refl;
      heads = forwards 0 hub_input (record { number = 0; member = refl; found = refl; firm = refl }) refl
          (writes 0 (record { number = 0; member = refl; found = refl; firm = refl }) refl);
    }))

    pub others : (cause : Cause) → (other : Part) → other ≢ Part.NotLost → Holds site (s5 cause) other
    others cause Part.Kept differs = of_one site (s5 cause) arrival refl Part.Kept
        (λ archive named. subst (λ z. IsWrittenOrHeads site (s5 cause) z 0) (sym (only_audit_is_named class archive named)) (heads cause))
    others cause Part.NotLost differs = absurd (differs refl)
    others cause Part.HeldOnce differs = of_one site (s5 cause) arrival refl Part.HeldOnce
        (λ relay cell entry there c. one_trail copy entry.tag (one_differs 0) c)
    others cause Part.PassedOnce differs = of_one site (s5 cause) arrival refl Part.PassedOnce
        (λ action tag there c. one_trail copy tag (one_differs 0) c)

  -- ---- into a full queue without a mark

  pub unmarked_room : HasRoom (leaking_plan unmarked_queue) r3 2
  unmarked_room = record { not_full = omega arith; not_held = refl }

  loses5 : LosesPost (leaking_plan unmarked_queue) r4 1 2 false (node 1 2) r5
  loses5 = record { job = job5 unmarked_queue unmarked_room refl; its = refl; cause = record { full = omega arith; not_held = refl }; after = refl }

  pub unmarked_run : Runs (leaking_site unmarked_queue) (leaking_events class (Event.PostLost 1 false)) (s5 unmarked_queue unmarked_room refl (Cause.PostLost 2))
  unmarked_run = leaking_run unmarked_queue unmarked_room refl (Event.PostLost 1 false) (s5 unmarked_queue unmarked_room refl (Cause.PostLost 2))
      ((λ h. h), record { state = r5; outs = _; step = (2, node 1 2, loses5, refl); after = refl })

  -- ---- into a queue that discards

  pub discarding_room : HasRoom (leaking_plan discarding_queue) r3 2
  discarding_room = record { not_full = omega arith; not_held = refl }

  abbrev posts5 : Posts (leaking_plan discarding_queue) r4 1 2 (node 2 1) true r5
  posts5 = record {
    job = job5 discarding_queue discarding_room refl;
    made = record { message = refl; list_is = refl; input = refl; tag = refl; due = first_due };
    discarded = discards_all class.severity;
    room = inl refl;
    after = refl;
  }

  pub discarding_run : Runs (leaking_site discarding_queue) (leaking_events class (Event.Post 1)) (s5 discarding_queue discarding_room refl (Cause.Post 2))
  discarding_run = leaking_run discarding_queue discarding_room refl (Event.Post 1) (s5 discarding_queue discarding_room refl (Cause.Post 2))
      ((λ h. h), record { state = r5; outs = _; step = (2, node 2 1, true, posts5, refl); after = refl })
