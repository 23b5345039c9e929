-- A run at whose end a link that leads nowhere has a copy.
use Rattle.std.proofs.Common.{false, [], ◌∷◌, refl, arith}
use Rattle.sy_wire.specs.declared.class.Class.{Class}
use Rattle.sy_chain.specs.Entries.{Entry}
use Rattle.sy_board.specs.relay.Cells as cells
use Rattle.sy_board.specs.relay.Cells.{Cell, RelayState, set_cell, set_failures, hand}
use Rattle.sy_board.specs.relay.Steps.{Enters, Event, Grabs, Settles, Takes}
use Rattle.sy_site.specs.machine.States.{Copy, SiteState, opening, with_passed, with_relay}
use Rattle.sy_site.specs.machine.Steps.{Runs, SiteEvent, SiteStep}
use Rattle.sy_site.specs.machine.Examples.{edge_input, example_message, up}
use Rattle.sy_site.specs.machine.Counterexamples.{aimless_events, aimless_plan, aimless_site}
use Rattle.sy_site.proofs.machine.DueSets.{first_due, lowest}
use Rattle.sy_site.proofs.machine.HastyRun as hasty

module _ (class : Class) where
  abbrev node : Entry
  node = hasty.node class

  abbrev copy : Copy
  copy = hasty.copy class

  abbrev r1 : RelayState
  r1 = hasty.r1 class

  abbrev r2 : RelayState
  r2 = hasty.r2 class

  abbrev r3 : RelayState
  r3 = hasty.r3 class

  abbrev r4 : RelayState
  r4 = hasty.r4 class

  takes1 : Takes aimless_plan (cells.opening aimless_plan) 0 0 node false r1
  takes1 = record {
    there =
        (omega arith, omega arith);
    made = record { input_is = refl; list = refl; due = first_due };
    free = refl;
    discarded = refl;
    after = refl;
  }

  enters2 : Enters aimless_plan r1 0 0 node r2
  enters2 = record { leaves = record { there = (omega arith, omega arith); held = refl; not_held = refl }; room = omega arith; after = refl }

  grabs3 : Grabs aimless_plan r2 1 [] r3
  grabs3 = record { there = omega arith; idle = refl; some = omega arith; lost_are = refl; after = refl }

  settles4 : Settles aimless_plan r3 1 0 node r4
  settles4 = record {
    job = record { there = omega arith; entry = node; others = []; held = refl; number = 0; left = 0; first = lowest; found = refl };
    its = refl;
    after = refl;
  }

  abbrev s0 : SiteState
  s0 = opening aimless_site

  abbrev s1 : SiteState
  s1 = record {
    relays = with_relay s0.relays 0 r1;
    copies = copy ∷ [];
    passed = λ a. [];
    losses = [];
    arrivals = record { message = example_message class; origin = edge_input } ∷ [];
  }

  abbrev s2 : SiteState
  s2 = record s1 { relays = with_relay s1.relays 0 r2 }

  abbrev s3 : SiteState
  s3 = record s2 { relays = with_relay s2.relays 0 r3 }

  abbrev pub s4 : SiteState
  s4 = record s3 { relays = with_relay s3.relays 0 r4; passed = with_passed s3.passed up (0 ∷ []) }

  step1 : SiteStep aimless_site s0 (SiteEvent.TakeNew edge_input 0 (example_message class)) s1
  step1 = record { node = node; message = refl; tag = refl; step = record { state = r1; outs = []; step = (false, takes1, refl); after = refl } }

  step2 : SiteStep aimless_site s1 (SiteEvent.Inside 0 (Event.Enter 0 0)) s2
  step2 = ((λ h. h), record { state = r2; outs = []; step = (node, enters2, refl); after = refl })

  step3 : SiteStep aimless_site s2 (SiteEvent.Inside 0 (Event.Grab 1)) s3
  step3 = ((λ h. h), record { state = r3; outs = []; step = ([], grabs3, refl); after = refl })

  step4 : SiteStep aimless_site s3 (SiteEvent.Inside 0 (Event.Done 1)) s4
  step4 = ((λ h. h), record { state = r4; outs = _; step = (0, node, settles4, refl); after = refl })

  pub aimless_run : Runs aimless_site (aimless_events class) s4
  aimless_run = (s1, step1, (s2, step2, (s3, step3, (s4, step4, refl))))
