-- A run with the steps by which messages are lost, and a post.
use Rattle.std.proofs.Common.{ℕ, false, [], ◌∷◌, ◌++◌, refl, arith, inr}
use Rattle.std.specs.Prelude.{drop}
use Rattle.sy_wire.specs.declared.class.Class.{Class}
use Rattle.sy_chain.specs.Entries.{Entry}
use Rattle.sy_rules.specs.declared.lists.occurrence.Occurrence.TheVariants as occurrence
use Rattle.sy_board.specs.relay.Cells as cells
use Rattle.sy_board.specs.relay.Cells.{Cell, RelayState, set_cell, set_failures, hand}
use Rattle.sy_board.specs.relay.Steps.{Cause, Enters, Event, Expires, Fails, GivesUp, Grabs, Job, LosesPost, Posts, Takes}
use Rattle.sy_site.specs.machine.States.{Copy, SiteState, opening, with_relay}
use Rattle.sy_site.specs.machine.Steps.{Runs, SiteEvent, SiteStep, SiteSteps}
use Rattle.sy_site.specs.machine.Examples.{edge_input, example_message, narrow_events, narrow_plan, narrow_site}
use Rattle.sy_site.proofs.machine.DueSets.{first_due, lowest}

module _ (class : Class) where
  abbrev pub node : ℕ → ℕ → Entry
  node list tag = record { message = example_message class; list = list; input = 0; due = 1; tag = tag }

  abbrev q : ℕ → Cell
  q number = Cell.Queue number

  abbrev w : ℕ → Cell
  w number = Cell.Worker number

  abbrev pub r0 : RelayState
  r0 = cells.opening narrow_plan

  -- the first message enters
  abbrev pub r1 : RelayState
  r1 = set_cell r0 (hand 0 0) (node 0 0 ∷ [])

  abbrev pub r2 : RelayState
  r2 = set_cell (set_cell r1 (hand 0 0) []) (q 0) (node 0 0 ∷ [])

  -- the second one expires
  abbrev pub r3 : RelayState
  r3 = set_cell r2 (hand 0 1) (node 0 1 ∷ [])

  abbrev pub r4 : RelayState
  r4 = set_cell r3 (hand 0 1) []

  -- the first one is posted
  abbrev pub r5 : RelayState
  r5 = set_cell (set_cell r4 (q 0) []) (w 0) (node 0 0 ∷ [])

  abbrev pub r6 : RelayState
  r6 = set_cell (set_failures (set_cell r5 (w 0) []) 0 0) (q 1) (node 1 0 ∷ [])

  -- the third one finds no room there
  abbrev pub r7 : RelayState
  r7 = set_cell r6 (hand 0 0) (node 0 2 ∷ [])

  abbrev pub r8 : RelayState
  r8 = set_cell (set_cell r7 (hand 0 0) []) (q 0) (node 0 2 ∷ [])

  abbrev pub r9 : RelayState
  r9 = set_cell (set_cell r8 (q 0) []) (w 0) (node 0 2 ∷ [])

  abbrev pub r10 : RelayState
  r10 = set_failures (set_cell r9 (w 0) []) 0 0

  -- the first one is given up
  abbrev pub r11 : RelayState
  r11 = set_cell (set_cell r10 (q 1) []) (w 1) (node 1 0 ∷ [])

  abbrev pub r12 : RelayState
  r12 = set_failures r11 1 1

  abbrev pub r13 : RelayState
  r13 = set_failures (set_cell r12 (w 1) []) 1 0

  takes1 : Takes narrow_plan r0 0 0 (node 0 0) false r1
  takes1 = record {
    there =
        (omega arith, omega arith);
    made = record { input_is = refl; list = refl; due = first_due };
    free = refl;
    discarded = refl;
    after = refl;
  }

  pub enters2 : Enters narrow_plan r1 0 0 (node 0 0) r2
  enters2 = record { leaves = record { there = (omega arith, omega arith); held = refl; not_held = refl }; room = omega arith; after = refl }

  takes3 : Takes narrow_plan r2 0 1 (node 0 1) false r3
  takes3 = record {
    there =
        (omega arith, omega arith);
    made = record { input_is = refl; list = refl; due = first_due };
    free = refl;
    discarded = refl;
    after = refl;
  }

  pub expires4 : Expires narrow_plan r3 0 1 (node 0 1) r4
  expires4 = record { leaves = record { there = (omega arith, omega arith); held = refl; not_held = refl }; full = omega arith; after = refl }

  grabs5 : Grabs narrow_plan r4 0 [] r5
  grabs5 = record { there = omega arith; idle = refl; some = omega arith; lost_are = refl; after = refl }

  abbrev pub job6 : Job narrow_plan r5 0 (occurrence.Post 1)
  job6 = record { there = omega arith; entry = node 0 0; others = []; held = refl; number = 0; left = 0; first = lowest; found = refl }

  pub posts6 : Posts narrow_plan r5 0 1 (node 1 0) false r6
  posts6 = record {
    job = job6;
    made = record { message = refl; list_is = refl; input = refl; tag = refl; due = first_due };
    discarded = refl;
    room = inr (record { not_full = omega arith; not_held = refl });
    after = refl;
  }

  takes7 : Takes narrow_plan r6 0 0 (node 0 2) false r7
  takes7 = record {
    there =
        (omega arith, omega arith);
    made = record { input_is = refl; list = refl; due = first_due };
    free = refl;
    discarded = refl;
    after = refl;
  }

  enters8 : Enters narrow_plan r7 0 0 (node 0 2) r8
  enters8 = record { leaves = record { there = (omega arith, omega arith); held = refl; not_held = refl }; room = omega arith; after = refl }

  grabs9 : Grabs narrow_plan r8 0 [] r9
  grabs9 = record { there = omega arith; idle = refl; some = omega arith; lost_are = refl; after = refl }

  pub loses10 : LosesPost narrow_plan r9 0 1 false (node 0 2) r10
  loses10 = record {
    job = record { there = omega arith; entry = node 0 2; others = []; held = refl; number = 0; left = 0; first = lowest; found = refl };
    its = refl;
    cause = record { full = omega arith; not_held = refl };
    after = refl;
  }

  grabs11 : Grabs narrow_plan r10 1 [] r11
  grabs11 = record { there = omega arith; idle = refl; some = omega arith; lost_are = refl; after = refl }

  pub fails12 : Fails narrow_plan r11 1 0 (node 1 0) r12
  fails12 = record {
    job = record { there = omega arith; entry = node 1 0; others = []; held = refl; number = 0; left = 0; first = lowest; found = refl };
    its = refl;
    again = omega arith;
    after = refl;
  }

  pub gives13 : GivesUp narrow_plan r12 1 0 (node 1 0) r13
  gives13 = record {
    job = record { there = omega arith; entry = node 1 0; others = []; held = refl; number = 0; left = 0; first = lowest; found = refl };
    its = refl;
    last = refl;
    after = refl;
  }

  -- the site

  abbrev pub on : SiteState → RelayState → SiteState
  on s state = record s { relays = with_relay s.relays 0 state }

  abbrev pub copy : ℕ → Copy
  copy number = record { number = number; message = example_message class; origin = edge_input; trail = 0 ∷ []; flag = false }

  abbrev pub with_new : SiteState → RelayState → ℕ → SiteState
  with_new s state number = record s {
    relays = with_relay s.relays 0 state;
    copies = s.copies ++ copy number ∷ [];
    arrivals = s.arrivals ++ record { message = example_message class; origin = edge_input } ∷ [];
  }

  abbrev pub with_loss : SiteState → ℕ → ℕ → Cause → SiteState
  with_loss s tag list cause = record s { losses = s.losses ++ record { copy = tag; relay = 0; list = list; cause = cause } ∷ [] }

  abbrev pub s0 : SiteState
  s0 = opening narrow_site

  abbrev pub s1 : SiteState
  s1 = with_new s0 r1 0

  abbrev pub s2 : SiteState
  s2 = on s1 r2

  abbrev pub s3 : SiteState
  s3 = with_new s2 r3 1

  abbrev pub s4 : SiteState
  s4 = with_loss (on s3 r4) 1 0 Cause.Expire

  abbrev pub s5 : SiteState
  s5 = on s4 r5

  abbrev pub s6 : SiteState
  s6 = on s5 r6

  abbrev pub s7 : SiteState
  s7 = with_new s6 r7 2

  abbrev pub s8 : SiteState
  s8 = on s7 r8

  abbrev pub s9 : SiteState
  s9 = on s8 r9

  abbrev pub s10 : SiteState
  s10 = with_loss (on s9 r10) 2 0 (Cause.PostLost 1)

  abbrev pub s11 : SiteState
  s11 = on s10 r11

  abbrev pub s12 : SiteState
  s12 = on s11 r12

  abbrev pub s13 : SiteState
  s13 = with_loss (on s12 r13) 0 1 (Cause.GiveUp 0)

  pub step1 : SiteStep narrow_site s0 (SiteEvent.TakeNew edge_input 0 (example_message class)) s1
  step1 = record { node = node 0 0; message = refl; tag = refl; step = record { state = r1; outs = []; step = (false, takes1, refl); after = refl } }

  pub step2 : SiteStep narrow_site s1 (SiteEvent.Inside 0 (Event.Enter 0 0)) s2
  step2 = ((λ h. h), record { state = r2; outs = []; step = (node 0 0, enters2, refl); after = refl })

  pub step3 : SiteStep narrow_site s2 (SiteEvent.TakeNew edge_input 1 (example_message class)) s3
  step3 = record { node = node 0 1; message = refl; tag = refl; step = record { state = r3; outs = []; step = (false, takes3, refl); after = refl } }

  pub step4 : SiteStep narrow_site s3 (SiteEvent.Inside 0 (Event.Expire 0 1)) s4
  step4 = ((λ h. h), record { state = r4; outs = _; step = (node 0 1, expires4, refl); after = refl })

  pub step5 : SiteStep narrow_site s4 (SiteEvent.Inside 0 (Event.Grab 0)) s5
  step5 = ((λ h. h), record { state = r5; outs = []; step = ([], grabs5, refl); after = refl })

  pub step6 : SiteStep narrow_site s5 (SiteEvent.Inside 0 (Event.Post 0)) s6
  step6 = ((λ h. h), record { state = r6; outs = []; step = (1, node 1 0, false, posts6, refl); after = refl })

  pub step7 : SiteStep narrow_site s6 (SiteEvent.TakeNew edge_input 0 (example_message class)) s7
  step7 = record { node = node 0 2; message = refl; tag = refl; step = record { state = r7; outs = []; step = (false, takes7, refl); after = refl } }

  pub step8 : SiteStep narrow_site s7 (SiteEvent.Inside 0 (Event.Enter 0 0)) s8
  step8 = ((λ h. h), record { state = r8; outs = []; step = (node 0 2, enters8, refl); after = refl })

  pub step9 : SiteStep narrow_site s8 (SiteEvent.Inside 0 (Event.Grab 0)) s9
  step9 = ((λ h. h), record { state = r9; outs = []; step = ([], grabs9, refl); after = refl })

  pub step10 : SiteStep narrow_site s9 (SiteEvent.Inside 0 (Event.PostLost 0 false)) s10
  step10 = ((λ h. h), record { state = r10; outs = _; step = (1, node 0 2, loses10, refl); after = refl })

  pub step11 : SiteStep narrow_site s10 (SiteEvent.Inside 0 (Event.Grab 1)) s11
  step11 = ((λ h. h), record { state = r11; outs = []; step = ([], grabs11, refl); after = refl })

  pub step12 : SiteStep narrow_site s11 (SiteEvent.Inside 0 (Event.Fail 1 false)) s12
  step12 = ((λ h. h), record { state = r12; outs = []; step = (0, node 1 0, fails12, refl); after = refl })

  pub step13 : SiteStep narrow_site s12 (SiteEvent.Inside 0 (Event.GiveUp 1 false)) s13
  step13 = ((λ h. h), record { state = r13; outs = _; step = (0, node 1 0, gives13, refl); after = refl })

  later : SiteSteps narrow_site s7 (drop 7 (narrow_events class)) s13
  later = (s8, step8, (s9, step9, (s10, step10, (s11, step11, (s12, step12, (s13, step13, refl))))))

  pub narrow_run : Runs narrow_site (narrow_events class) s13
  narrow_run = (s1, step1, (s2, step2, (s3, step3, (s4, step4, (s5, step5, (s6, step6, (s7, step7, later)))))))
