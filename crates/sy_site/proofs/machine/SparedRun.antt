-- A run in which a message comes to its archive by a spare action alone.
use Rattle.std.proofs.Common.{ℕ, Bool, true, false, List, [], ◌∷◌, refl, arith}
use Rattle.std.specs.Prelude.{take}
use Rattle.sy_wire.specs.declared.class.Class.{Class}
use Rattle.sy_chain.specs.Entries.{Entry}
use Rattle.sy_board.specs.relay.Cells as cells
use Rattle.sy_board.specs.relay.Cells.{Cell, RelayState, set_cell, set_failures, hand}
use Rattle.sy_board.specs.relay.Steps.{Enters, Event, Grabs, Settles, Takes}
use Rattle.sy_site.specs.machine.States.{Copy, SiteState, opening, with_passed, with_relay}
use Rattle.sy_site.specs.machine.Steps.{Runs, SiteEvent, SiteStep}
use Rattle.sy_site.specs.machine.Examples.{audit, edge_input, example_message, hub_input, hub_plan, up}
use Rattle.sy_site.specs.machine.Counterexamples.{spared_events, spared_site}
use Rattle.sy_site.proofs.machine.EdgeRun as edge
use Rattle.sy_site.proofs.machine.DueSets.{first_due, lowest}

module _ (class : Class) where
  abbrev pub node : Entry
  node = record { message = example_message class; list = 0; input = 0; due = 1; tag = 1 }

  abbrev h0 : RelayState
  h0 = cells.opening hub_plan

  abbrev pub h1 : RelayState
  h1 = set_cell h0 (hand 0 0) (node ∷ [])

  abbrev h2 : RelayState
  h2 = set_cell (set_cell h1 (hand 0 0) []) (Cell.Queue 0) (node ∷ [])

  abbrev h3 : RelayState
  h3 = set_cell (set_cell h2 (Cell.Queue 0) []) (Cell.Worker 0) (node ∷ [])

  abbrev pub h4 : RelayState
  h4 = set_failures (set_cell h3 (Cell.Worker 0) []) 0 0

  takes5 : Takes hub_plan h0 0 0 node false h1
  takes5 = record {
    there =
        (omega arith, omega arith);
    made = record { input_is = refl; list = refl; due = first_due };
    free = refl;
    discarded = refl;
    after = refl;
  }

  enters6 : Enters hub_plan h1 0 0 node h2
  enters6 = record { leaves = record { there = (omega arith, omega arith); held = refl; not_held = refl }; room = omega arith; after = refl }

  grabs7 : Grabs hub_plan h2 0 [] h3
  grabs7 = record { there = omega arith; idle = refl; some = omega arith; lost_are = refl; after = refl }

  settles8 : Settles hub_plan h3 0 0 node h4
  settles8 = record {
    job = record { there = omega arith; entry = node; others = []; held = refl; number = 0; left = 0; first = lowest; found = refl };
    its = refl;
    after = refl;
  }

  abbrev pub copy : List ℕ → Bool → Copy
  copy trail flag = record { number = 0; message = example_message class; origin = edge_input; trail = trail; flag = flag }

  abbrev s0 : SiteState
  s0 = opening spared_site

  abbrev pub s1 : SiteState
  s1 = record {
    relays = with_relay s0.relays 0 (edge.r1 class 0);
    copies = copy (0 ∷ []) false ∷ [];
    passed = λ a. [];
    losses = [];
    arrivals = record { message = example_message class; origin = edge_input } ∷ [];
  }

  abbrev s2 : SiteState
  s2 = record s1 { relays = with_relay s1.relays 0 (edge.r2 class 0) }

  abbrev s3 : SiteState
  s3 = record s2 { relays = with_relay s2.relays 0 (edge.r3 class 0) }

  abbrev pub s4 : SiteState
  s4 = record s3 { relays = with_relay s3.relays 0 (edge.r4 class 0); passed = with_passed s3.passed up (0 ∷ []) }

  abbrev pub s5 : SiteState
  s5 = record s4 {
    relays = with_relay s4.relays 1 h1;
    copies = copy (0 ∷ []) false ∷ copy (0 ∷ 1 ∷ []) true ∷ [];
    passed = with_passed s4.passed up [];
  }

  abbrev s6 : SiteState
  s6 = record s5 { relays = with_relay s5.relays 1 h2 }

  abbrev s7 : SiteState
  s7 = record s6 { relays = with_relay s6.relays 1 h3 }

  abbrev pub s8 : SiteState
  s8 = record s7 { relays = with_relay s7.relays 1 h4; passed = with_passed s7.passed audit (1 ∷ []) }

  step1 : SiteStep spared_site s0 (SiteEvent.TakeNew edge_input 0 (example_message class)) s1
  step1 = record {
    node = edge.node class 0;
    message = refl;
    tag = refl;
    step = record { state = edge.r1 class 0; outs = []; step = (false, edge.takes class 0, refl); after = refl };
  }

  step2 : SiteStep spared_site s1 (SiteEvent.Inside 0 (Event.Enter 0 0)) s2
  step2 = ((λ h. h), record { state = edge.r2 class 0; outs = []; step = (edge.node class 0, edge.enters class 0, refl); after = refl })

  step3 : SiteStep spared_site s2 (SiteEvent.Inside 0 (Event.Grab 1)) s3
  step3 = ((λ h. h), record { state = edge.r3 class 0; outs = []; step = ([], edge.grabs class 0, refl); after = refl })

  step4 : SiteStep spared_site s3 (SiteEvent.Inside 0 (Event.Done 1)) s4
  step4 = ((λ h. h), record { state = edge.r4 class 0; outs = _; step = (0, edge.node class 0, edge.settles class 0, refl); after = refl })

  step5 : SiteStep spared_site s4 (SiteEvent.TakeFrom hub_input 0 up 0) s5
  step5 = record {
    leads = refl;
    before = [];
    tag = 0;
    behind = [];
    on_link = refl;
    stands = refl;
    copy = copy (0 ∷ []) false;
    is = refl;
    takes = record {
      node = node;
      message = refl;
      tag = refl;
      step = record { state = h1; outs = []; step = (false, takes5, refl); after = refl };
    };
  }

  step6 : SiteStep spared_site s5 (SiteEvent.Inside 1 (Event.Enter 0 0)) s6
  step6 = ((λ h. h), record { state = h2; outs = []; step = (node, enters6, refl); after = refl })

  step7 : SiteStep spared_site s6 (SiteEvent.Inside 1 (Event.Grab 0)) s7
  step7 = ((λ h. h), record { state = h3; outs = []; step = ([], grabs7, refl); after = refl })

  step8 : SiteStep spared_site s7 (SiteEvent.Inside 1 (Event.Done 0)) s8
  step8 = ((λ h. h), record { state = h4; outs = _; step = (0, node, settles8, refl); after = refl })

  pub before_run : Runs spared_site (take 1 (spared_events class)) s1
  before_run = (s1, step1, refl)

  pub link_run : Runs spared_site (take 4 (spared_events class)) s4
  link_run = (s1, step1, (s2, step2, (s3, step3, (s4, step4, refl))))

  pub behind_run : Runs spared_site (take 5 (spared_events class)) s5
  behind_run = (s1, step1, (s2, step2, (s3, step3, (s4, step4, (s5, step5, refl)))))

  pub archive_run : Runs spared_site (spared_events class) s8
  archive_run = (s1, step1, (s2, step2, (s3, step3, (s4, step4, (s5, step5, (s6, step6, (s7, step7, (s8, step8, refl))))))))
