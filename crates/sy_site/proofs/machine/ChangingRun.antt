-- A run in which a copy comes to follow another list than its input's.
use Rattle.std.proofs.Common.{ℕ, false, [], ◌∷◌, refl, arith, inr}
use Rattle.sy_wire.specs.declared.class.Class.{Class}
use Rattle.sy_chain.specs.Entries.{Entry}
use Rattle.sy_rules.specs.declared.lists.occurrence.Occurrence.TheVariants as occurrence
use Rattle.sy_board.specs.relay.Cells as cells
use Rattle.sy_board.specs.relay.Cells.{Cell, RelayState, set_cell, set_failures, hand}
use Rattle.sy_board.specs.relay.Steps.{Enters, Event, Grabs, Job, Posts, Takes}
use Rattle.sy_site.specs.machine.States.{Copy, SiteState, opening, with_relay}
use Rattle.sy_site.specs.machine.Steps.{Runs, SiteEvent, SiteStep}
use Rattle.sy_site.specs.machine.Examples.{edge_input, example_message}
use Rattle.sy_site.specs.machine.Counterexamples.{changing_events, changing_plan, changing_site}
use Rattle.sy_site.proofs.machine.DueSets.{first_due, lowest}

module _ (class : Class) where
  abbrev pub node : ℕ → Entry
  node list = record { message = example_message class; list = list; input = 0; due = 1; tag = 0 }

  abbrev pub copy : Copy
  copy = record { number = 0; message = example_message class; origin = edge_input; trail = 0 ∷ []; flag = false }

  abbrev r0 : RelayState
  r0 = cells.opening changing_plan

  abbrev r1 : RelayState
  r1 = set_cell r0 (hand 0 0) (node 0 ∷ [])

  abbrev r2 : RelayState
  r2 = set_cell (set_cell r1 (hand 0 0) []) (Cell.Queue 0) (node 0 ∷ [])

  abbrev r3 : RelayState
  r3 = set_cell (set_cell r2 (Cell.Queue 0) []) (Cell.Worker 0) (node 0 ∷ [])

  abbrev r4 : RelayState
  r4 = set_cell (set_failures (set_cell r3 (Cell.Worker 0) []) 0 0) (Cell.Queue 0) (node 1 ∷ [])

  takes1 : Takes changing_plan r0 0 0 (node 0) false r1
  takes1 = record {
    there =
        (omega arith, omega arith);
    made = record { input_is = refl; list = refl; due = first_due };
    free = refl;
    discarded = refl;
    after = refl;
  }

  enters2 : Enters changing_plan r1 0 0 (node 0) r2
  enters2 = record { leaves = record { there = (omega arith, omega arith); held = refl; not_held = refl }; room = omega arith; after = refl }

  grabs3 : Grabs changing_plan r2 0 [] r3
  grabs3 = record { there = omega arith; idle = refl; some = omega arith; lost_are = refl; after = refl }

  abbrev posts4_job : Job changing_plan r3 0 (occurrence.Post 1)
  posts4_job = record { there = omega arith; entry = node 0; others = []; held = refl; number = 0; left = 0; first = lowest; found = refl }

  posts4 : Posts changing_plan r3 0 1 (node 1) false r4
  posts4 = record {
    job = posts4_job;
    made = record { message = refl; list_is = refl; input = refl; tag = refl; due = first_due };
    discarded = refl;
    room = inr (record { not_full = omega arith; not_held = refl });
    after = refl;
  }

  abbrev s0 : SiteState
  s0 = opening changing_site

  abbrev s1 : SiteState
  s1 = record {
    relays = with_relay s0.relays 0 r1;
    copies = copy ∷ [];
    passed = λ a. [];
    losses = [];
    arrivals = record { message = example_message class; origin = edge_input } ∷ [];
  }

  abbrev s2 : SiteState
  s2 = record s1 { relays = with_relay s1.relays 0 r2 }

  abbrev s3 : SiteState
  s3 = record s2 { relays = with_relay s2.relays 0 r3 }

  abbrev pub s4 : SiteState
  s4 = record s3 { relays = with_relay s3.relays 0 r4 }

  step1 : SiteStep changing_site s0 (SiteEvent.TakeNew edge_input 0 (example_message class)) s1
  step1 = record { node = node 0; message = refl; tag = refl; step = record { state = r1; outs = []; step = (false, takes1, refl); after = refl } }

  step2 : SiteStep changing_site s1 (SiteEvent.Inside 0 (Event.Enter 0 0)) s2
  step2 = ((λ h. h), record { state = r2; outs = []; step = (node 0, enters2, refl); after = refl })

  step3 : SiteStep changing_site s2 (SiteEvent.Inside 0 (Event.Grab 0)) s3
  step3 = ((λ h. h), record { state = r3; outs = []; step = ([], grabs3, refl); after = refl })

  step4 : SiteStep changing_site s3 (SiteEvent.Inside 0 (Event.Post 0)) s4
  step4 = ((λ h. h), record { state = r4; outs = []; step = (1, node 1, false, posts4, refl); after = refl })

  pub changing_run : Runs changing_site (changing_events class) s4
  changing_run = (s1, step1, (s2, step2, (s3, step3, (s4, step4, refl))))
