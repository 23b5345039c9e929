-- A run in which a message comes to a relay twice, on its way to its archive.
use Rattle.std.proofs.Common.{ℕ, false, List, [], ◌∷◌, ◌++◌, refl, arith}
use Rattle.std.specs.Prelude.{take}
use Rattle.sy_wire.specs.declared.class.Class.{Class}
use Rattle.sy_chain.specs.Entries.{Entry}
use Rattle.sy_rules.specs.Whole.{AreDifferent}
use Rattle.sy_board.specs.relay.Cells as cells
use Rattle.sy_board.specs.relay.Cells.{Cell, RelayState, set_cell, set_failures, hand}
use Rattle.sy_board.specs.relay.Steps.{Enters, Event, Grabs, Settles, Takes}
use Rattle.sy_site.specs.Sites.{SiteAction}
use Rattle.sy_site.specs.machine.States.{Copy, SiteState, opening, with_passed, with_relay}
use Rattle.sy_site.specs.machine.Steps.{Runs, SiteEvent, SiteStep}
use Rattle.sy_site.specs.machine.Examples.{audit, edge_input, example_message, hub_input, hub_plan}
use Rattle.sy_site.specs.machine.Counterexamples.{again, again_input, to_hub, twice_events, twice_plan, twice_site}
use Rattle.sy_site.proofs.machine.DueSets.{first_due, lowest}

module _ (class : Class) where
  -- at edge: by the first input, then by the second one

  abbrev pub node : (list input tag : ℕ) → Entry
  node list input tag = record { message = example_message class; list = list; input = input; due = 1; tag = tag }

  abbrev e0 : RelayState
  e0 = cells.opening twice_plan

  abbrev e1 : RelayState
  e1 = set_cell e0 (hand 0 0) (node 0 0 0 ∷ [])

  abbrev e2 : RelayState
  e2 = set_cell (set_cell e1 (hand 0 0) []) (Cell.Queue 0) (node 0 0 0 ∷ [])

  abbrev e3 : RelayState
  e3 = set_cell (set_cell e2 (Cell.Queue 0) []) (Cell.Worker 0) (node 0 0 0 ∷ [])

  abbrev e4 : RelayState
  e4 = set_failures (set_cell e3 (Cell.Worker 0) []) 0 0

  abbrev e5 : RelayState
  e5 = set_cell e4 (hand 1 0) (node 1 1 1 ∷ [])

  abbrev e6 : RelayState
  e6 = set_cell (set_cell e5 (hand 1 0) []) (Cell.Queue 0) (node 1 1 1 ∷ [])

  abbrev e7 : RelayState
  e7 = set_cell (set_cell e6 (Cell.Queue 0) []) (Cell.Worker 0) (node 1 1 1 ∷ [])

  abbrev pub e8 : RelayState
  e8 = set_failures (set_cell e7 (Cell.Worker 0) []) 0 0

  takes1 : Takes twice_plan e0 0 0 (node 0 0 0) false e1
  takes1 = record {
    there =
        (omega arith, omega arith);
    made = record { input_is = refl; list = refl; due = first_due };
    free = refl;
    discarded = refl;
    after = refl;
  }

  enters2 : Enters twice_plan e1 0 0 (node 0 0 0) e2
  enters2 = record { leaves = record { there = (omega arith, omega arith); held = refl; not_held = refl }; room = omega arith; after = refl }

  grabs3 : Grabs twice_plan e2 0 [] e3
  grabs3 = record { there = omega arith; idle = refl; some = omega arith; lost_are = refl; after = refl }

  settles4 : Settles twice_plan e3 0 0 (node 0 0 0) e4
  settles4 = record {
    job = record { there = omega arith; entry = node 0 0 0; others = []; held = refl; number = 0; left = 0; first = lowest; found = refl };
    its = refl;
    after = refl;
  }

  takes5 : Takes twice_plan e4 1 0 (node 1 1 1) false e5
  takes5 = record {
    there =
        (omega arith, omega arith);
    made = record { input_is = refl; list = refl; due = first_due };
    free = refl;
    discarded = refl;
    after = refl;
  }

  enters6 : Enters twice_plan e5 1 0 (node 1 1 1) e6
  enters6 = record { leaves = record { there = (omega arith, omega arith); held = refl; not_held = refl }; room = omega arith; after = refl }

  grabs7 : Grabs twice_plan e6 0 [] e7
  grabs7 = record { there = omega arith; idle = refl; some = omega arith; lost_are = refl; after = refl }

  settles8 : Settles twice_plan e7 0 1 (node 1 1 1) e8
  settles8 = record {
    job = record { there = omega arith; entry = node 1 1 1; others = []; held = refl; number = 0; left = 0; first = lowest; found = refl };
    its = refl;
    after = refl;
  }

  -- at hub

  abbrev h0 : RelayState
  h0 = cells.opening hub_plan

  abbrev h1 : RelayState
  h1 = set_cell h0 (hand 0 0) (node 0 0 2 ∷ [])

  abbrev h2 : RelayState
  h2 = set_cell (set_cell h1 (hand 0 0) []) (Cell.Queue 0) (node 0 0 2 ∷ [])

  abbrev h3 : RelayState
  h3 = set_cell (set_cell h2 (Cell.Queue 0) []) (Cell.Worker 0) (node 0 0 2 ∷ [])

  abbrev pub h4 : RelayState
  h4 = set_failures (set_cell h3 (Cell.Worker 0) []) 0 0

  takes9 : Takes hub_plan h0 0 0 (node 0 0 2) false h1
  takes9 = record {
    there =
        (omega arith, omega arith);
    made = record { input_is = refl; list = refl; due = first_due };
    free = refl;
    discarded = refl;
    after = refl;
  }

  enters10 : Enters hub_plan h1 0 0 (node 0 0 2) h2
  enters10 = record { leaves = record { there = (omega arith, omega arith); held = refl; not_held = refl }; room = omega arith; after = refl }

  grabs11 : Grabs hub_plan h2 0 [] h3
  grabs11 = record { there = omega arith; idle = refl; some = omega arith; lost_are = refl; after = refl }

  settles12 : Settles hub_plan h3 0 0 (node 0 0 2) h4
  settles12 = record {
    job = record { there = omega arith; entry = node 0 0 2; others = []; held = refl; number = 0; left = 0; first = lowest; found = refl };
    its = refl;
    after = refl;
  }

  -- the site

  abbrev pub copy : List ℕ → Copy
  copy trail = record { number = 0; message = example_message class; origin = edge_input; trail = trail; flag = false }

  abbrev on : SiteState → ℕ → RelayState → SiteState
  on s relay state = record s { relays = with_relay s.relays relay state }

  abbrev sent : SiteState → SiteAction → ℕ → SiteState
  sent s action tag = record s { passed = with_passed s.passed action (s.passed action ++ tag ∷ []) }

  -- the link has nothing more, and its copy is one of this trail
  abbrev came : SiteState → SiteAction → List ℕ → SiteState
  came s link trail = record s { passed = with_passed s.passed link []; copies = s.copies ++ copy trail ∷ [] }

  abbrev s0 : SiteState
  s0 = opening twice_site

  abbrev s1 : SiteState
  s1 = record {
    relays = with_relay s0.relays 0 e1;
    copies = copy (0 ∷ []) ∷ [];
    passed = λ a. [];
    losses = [];
    arrivals = record { message = example_message class; origin = edge_input } ∷ [];
  }

  abbrev s2 : SiteState
  s2 = on s1 0 e2

  abbrev s3 : SiteState
  s3 = on s2 0 e3

  abbrev s4 : SiteState
  s4 = sent (on s3 0 e4) again 0

  abbrev pub s5 : SiteState
  s5 = on (came s4 again (0 ∷ 0 ∷ [])) 0 e5

  abbrev s6 : SiteState
  s6 = on s5 0 e6

  abbrev s7 : SiteState
  s7 = on s6 0 e7

  abbrev pub s8 : SiteState
  s8 = sent (on s7 0 e8) to_hub 1

  abbrev s9 : SiteState
  s9 = on (came s8 to_hub (0 ∷ 0 ∷ 1 ∷ [])) 1 h1

  abbrev s10 : SiteState
  s10 = on s9 1 h2

  abbrev s11 : SiteState
  s11 = on s10 1 h3

  abbrev pub s12 : SiteState
  s12 = sent (on s11 1 h4) audit 2

  step1 : SiteStep twice_site s0 (SiteEvent.TakeNew edge_input 0 (example_message class)) s1
  step1 = record { node = node 0 0 0; message = refl; tag = refl; step = record { state = e1; outs = []; step = (false, takes1, refl); after = refl } }

  step2 : SiteStep twice_site s1 (SiteEvent.Inside 0 (Event.Enter 0 0)) s2
  step2 = ((λ h. h), record { state = e2; outs = []; step = (node 0 0 0, enters2, refl); after = refl })

  step3 : SiteStep twice_site s2 (SiteEvent.Inside 0 (Event.Grab 0)) s3
  step3 = ((λ h. h), record { state = e3; outs = []; step = ([], grabs3, refl); after = refl })

  step4 : SiteStep twice_site s3 (SiteEvent.Inside 0 (Event.Done 0)) s4
  step4 = ((λ h. h), record { state = e4; outs = _; step = (0, node 0 0 0, settles4, refl); after = refl })

  step5 : SiteStep twice_site s4 (SiteEvent.TakeFrom again_input 0 again 0) s5
  step5 = record {
    leads = refl;
    before = [];
    tag = 0;
    behind = [];
    on_link = refl;
    stands = refl;
    copy = copy (0 ∷ []);
    is = refl;
    takes = record {
      node = node 1 1 1;
      message = refl;
      tag = refl;
      step = record { state = e5; outs = []; step = (false, takes5, refl); after = refl };
    };
  }

  step6 : SiteStep twice_site s5 (SiteEvent.Inside 0 (Event.Enter 1 0)) s6
  step6 = ((λ h. h), record { state = e6; outs = []; step = (node 1 1 1, enters6, refl); after = refl })

  step7 : SiteStep twice_site s6 (SiteEvent.Inside 0 (Event.Grab 0)) s7
  step7 = ((λ h. h), record { state = e7; outs = []; step = ([], grabs7, refl); after = refl })

  step8 : SiteStep twice_site s7 (SiteEvent.Inside 0 (Event.Done 0)) s8
  step8 = ((λ h. h), record { state = e8; outs = _; step = (1, node 1 1 1, settles8, refl); after = refl })

  step9 : SiteStep twice_site s8 (SiteEvent.TakeFrom hub_input 0 to_hub 0) s9
  step9 = record {
    leads = refl;
    before = [];
    tag = 1;
    behind = [];
    on_link = refl;
    stands = refl;
    copy = copy (0 ∷ 0 ∷ []);
    is = refl;
    takes = record {
      node = node 0 0 2;
      message = refl;
      tag = refl;
      step = record { state = h1; outs = []; step = (false, takes9, refl); after = refl };
    };
  }

  step10 : SiteStep twice_site s9 (SiteEvent.Inside 1 (Event.Enter 0 0)) s10
  step10 = ((λ h. h), record { state = h2; outs = []; step = (node 0 0 2, enters10, refl); after = refl })

  step11 : SiteStep twice_site s10 (SiteEvent.Inside 1 (Event.Grab 0)) s11
  step11 = ((λ h. h), record { state = h3; outs = []; step = ([], grabs11, refl); after = refl })

  step12 : SiteStep twice_site s11 (SiteEvent.Inside 1 (Event.Done 0)) s12
  step12 = ((λ h. h), record { state = h4; outs = _; step = (0, node 0 0 2, settles12, refl); after = refl })

  pub held_run : Runs twice_site (take 5 (twice_events class)) s5
  held_run = (s1, step1, (s2, step2, (s3, step3, (s4, step4, (s5, step5, refl)))))

  pub sent_run : Runs twice_site (take 8 (twice_events class)) s8
  sent_run = (s1, step1, (s2, step2, (s3, step3, (s4, step4, (s5, step5, (s6, step6, (s7, step7, (s8, step8, refl))))))))

  pub written_run : Runs twice_site (twice_events class) s12
  written_run = (s1, step1, (s2, step2, (s3, step3, (s4, step4, (s5, step5, (s6, step6, (s7, step7, (s8, step8, (s9, step9, (s10, step10, (s11, step11, (s12, step12, refl))))))))))))

-- a trail that begins with a relay twice
pub not_different : (trail : List ℕ) → AreDifferent (0 ∷ 0 ∷ trail) → ⊥
not_different trail different = different 0 1 0 (omega arith) (omega arith) refl
