-- A run of the example that writes a message.
use Rattle.std.proofs.Common.{inr, ℕ, true, false, [], ◌∷◌, ◌++◌, refl, arith}
use Rattle.std.specs.Prelude.{drop}
use Rattle.sy_wire.specs.declared.class.Class.{Class}
use Rattle.sy_chain.specs.Entries.{Entry}
use Rattle.sy_board.specs.relay.Cells as cells
use Rattle.sy_board.specs.relay.Cells.{Cell, RelayState, set_cell, set_failures, hand}
use Rattle.sy_board.specs.relay.Steps.{Cause, Enters, Event, Fails, GivesUp, Grabs, Posts, Settles, Takes}
use Rattle.sy_site.specs.Sites.{SiteAction}
use Rattle.sy_site.specs.machine.States.{Copy, Loss, SiteState, off_link, opening, taken_by, with_passed, with_relay}
use Rattle.sy_site.specs.machine.Steps.{Runs, SiteEvent, SiteStep, SiteSteps}
use Rattle.sy_site.specs.machine.Examples.{audit, copying, copying_plan, edge_input, example_events, example_message, example_site, hub_input, mirror_input, mirror_plan, up, waiting_plan}
use Rattle.sy_site.proofs.machine.DueSets.{both_due, first_due, lowest, lowest_of_both, second_of_both}

module _ (class : Class) where
  abbrev node : ℕ → ℕ → ℕ → Entry
  node list due tag = record { message = example_message class; list = list; input = 0; due = due; tag = tag }

  -- at edge

  abbrev edge0 : RelayState
  edge0 = cells.opening waiting_plan

  abbrev edge1 : RelayState
  edge1 = set_cell edge0 (hand 0 0) (node 1 1 0 ∷ [])

  abbrev edge2 : RelayState
  edge2 = set_cell (set_cell edge1 (hand 0 0) []) (Cell.Queue 1) (node 1 1 0 ∷ [])

  abbrev edge3 : RelayState
  edge3 = set_cell (set_cell edge2 (Cell.Queue 1) []) (Cell.Worker 1) (node 1 1 0 ∷ [])

  abbrev edge4 : RelayState
  edge4 = set_cell (set_failures (set_cell edge3 (Cell.Worker 1) []) 1 0) (Cell.Queue 2) (node 2 1 0 ∷ [])

  abbrev edge5 : RelayState
  edge5 = set_cell (set_cell edge4 (Cell.Queue 2) []) (Cell.Worker 2) (node 2 1 0 ∷ [])

  abbrev edge6 : RelayState
  edge6 = set_failures edge5 2 0

  abbrev edge7 : RelayState
  edge7 = set_failures (set_cell edge6 (Cell.Worker 2) []) 2 0

  edge_takes : Takes waiting_plan edge0 0 0 (node 1 1 0) false edge1
  edge_takes = record {
    there =
        (omega arith, omega arith);
    made = record { input_is = refl; list = refl; due = first_due };
    free = refl;
    discarded = refl;
    after = refl;
  }

  edge_enters : Enters waiting_plan edge1 0 0 (node 1 1 0) edge2
  edge_enters = record { leaves = record { there = (omega arith, omega arith); held = refl; not_held = refl }; room = omega arith; after = refl }

  edge_grabs : Grabs waiting_plan edge2 1 [] edge3
  edge_grabs = record { there = omega arith; idle = refl; some = omega arith; lost_are = refl; after = refl }

  edge_posts : Posts waiting_plan edge3 1 2 (node 2 1 0) false edge4
  edge_posts = record {
    job = record { there = omega arith; entry = node 1 1 0; others = []; held = refl; number = 0; left = 0; first = lowest; found = refl };
    made = record { message = refl; list_is = refl; input = refl; tag = refl; due = first_due };
    discarded = refl;
    room = inr (record { not_full = omega arith; not_held = refl });
    after = refl;
  }

  edge_grabs_again : Grabs waiting_plan edge4 2 [] edge5
  edge_grabs_again = record { there = omega arith; idle = refl; some = omega arith; lost_are = refl; after = refl }

  edge_fails : Fails waiting_plan edge5 2 0 (node 2 1 0) edge6
  edge_fails = record {
    job = record { there = omega arith; entry = node 2 1 0; others = []; held = refl; number = 0; left = 0; first = lowest; found = refl };
    its = refl;
    again = tt;
    after = refl;
  }

  edge_settles : Settles waiting_plan edge6 2 0 (node 2 1 0) edge7
  edge_settles = record {
    job = record { there = omega arith; entry = node 2 1 0; others = []; held = refl; number = 0; left = 0; first = lowest; found = refl };
    its = refl;
    after = refl;
  }

  -- at hub: the second copy, with the second tag

  abbrev hub0 : RelayState
  hub0 = cells.opening copying_plan

  abbrev hub1 : RelayState
  hub1 = set_cell hub0 (hand 0 0) (node 0 3 1 ∷ [])

  abbrev hub2 : RelayState
  hub2 = set_cell (set_cell hub1 (hand 0 0) []) (Cell.Queue 0) (node 0 3 1 ∷ [])

  abbrev hub3 : RelayState
  hub3 = set_cell (set_cell hub2 (Cell.Queue 0) []) (Cell.Worker 0) (node 0 3 1 ∷ [])

  abbrev hub4 : RelayState
  hub4 = set_failures (set_cell hub3 (Cell.Worker 0) (node 0 2 1 ∷ [])) 0 0

  abbrev hub5 : RelayState
  hub5 = set_cell (set_failures (set_cell hub4 (Cell.Worker 0) []) 0 0) (Cell.Queue 1) (node 1 1 1 ∷ [])

  abbrev hub6 : RelayState
  hub6 = set_cell (set_cell hub5 (Cell.Queue 1) []) (Cell.Worker 1) (node 1 1 1 ∷ [])

  abbrev hub7 : RelayState
  hub7 = set_failures (set_cell hub6 (Cell.Worker 1) []) 1 0

  hub_takes : Takes copying_plan hub0 0 0 (node 0 3 1) false hub1
  hub_takes = record {
    there =
        (omega arith, omega arith);
    made = record { input_is = refl; list = refl; due = both_due };
    free = refl;
    discarded = refl;
    after = refl;
  }

  hub_enters : Enters copying_plan hub1 0 0 (node 0 3 1) hub2
  hub_enters = record { leaves = record { there = (omega arith, omega arith); held = refl; not_held = refl }; room = omega arith; after = refl }

  hub_grabs : Grabs copying_plan hub2 0 [] hub3
  hub_grabs = record { there = omega arith; idle = refl; some = omega arith; lost_are = refl; after = refl }

  hub_settles : Settles copying_plan hub3 0 0 (node 0 3 1) hub4
  hub_settles = record {
    job = record { there = omega arith; entry = node 0 3 1; others = []; held = refl; number = 0; left = 2; first = lowest_of_both; found = refl };
    its = refl;
    after = refl;
  }

  hub_posts : Posts copying_plan hub4 0 1 (node 1 1 1) false hub5
  hub_posts = record {
    job = record { there = omega arith; entry = node 0 2 1; others = []; held = refl; number = 1; left = 0; first = second_of_both; found = refl };
    made = record { message = refl; list_is = refl; input = refl; tag = refl; due = first_due };
    discarded = refl;
    room = inr (record { not_full = omega arith; not_held = refl });
    after = refl;
  }

  hub_grabs_again : Grabs copying_plan hub5 1 [] hub6
  hub_grabs_again = record { there = omega arith; idle = refl; some = omega arith; lost_are = refl; after = refl }

  hub_copies : Settles copying_plan hub6 1 1 (node 1 1 1) hub7
  hub_copies = record {
    job = record { there = omega arith; entry = node 1 1 1; others = []; held = refl; number = 0; left = 0; first = lowest; found = refl };
    its = refl;
    after = refl;
  }

  -- at mirror: the third copy, which is flagged

  abbrev mirror0 : RelayState
  mirror0 = cells.opening mirror_plan

  abbrev mirror1 : RelayState
  mirror1 = set_cell mirror0 (hand 0 0) (node 0 1 2 ∷ [])

  abbrev mirror2 : RelayState
  mirror2 = set_cell (set_cell mirror1 (hand 0 0) []) (Cell.Queue 0) (node 0 1 2 ∷ [])

  abbrev mirror3 : RelayState
  mirror3 = set_cell (set_cell mirror2 (Cell.Queue 0) []) (Cell.Worker 0) (node 0 1 2 ∷ [])

  abbrev mirror4 : RelayState
  mirror4 = set_failures (set_cell mirror3 (Cell.Worker 0) []) 0 0

  mirror_takes : Takes mirror_plan mirror0 0 0 (node 0 1 2) false mirror1
  mirror_takes = record {
    there =
        (omega arith, omega arith);
    made = record { input_is = refl; list = refl; due = first_due };
    free = refl;
    discarded = refl;
    after = refl;
  }

  mirror_enters : Enters mirror_plan mirror1 0 0 (node 0 1 2) mirror2
  mirror_enters = record { leaves = record { there = (omega arith, omega arith); held = refl; not_held = refl }; room = omega arith; after = refl }

  mirror_grabs : Grabs mirror_plan mirror2 0 [] mirror3
  mirror_grabs = record { there = omega arith; idle = refl; some = omega arith; lost_are = refl; after = refl }

  mirror_gives_up : GivesUp mirror_plan mirror3 0 0 (node 0 1 2) mirror4
  mirror_gives_up = record {
    job = record { there = omega arith; entry = node 0 1 2; others = []; held = refl; number = 0; left = 0; first = lowest; found = refl };
    its = refl;
    last = refl;
    after = refl;
  }

  -- the site

  abbrev on_relay : SiteState → ℕ → RelayState → SiteState
  on_relay s r state = record s { relays = with_relay s.relays r state }

  abbrev sent : SiteState → SiteAction → ℕ → SiteState
  sent s a tag = record s { passed = with_passed s.passed a (s.passed a ++ tag ∷ []) }

  abbrev came : Copy
  came = record { number = 0; message = example_message class; origin = edge_input; trail = []; flag = false }

  abbrev at_edge : Copy
  at_edge = taken_by 0 came

  abbrev pub at_hub : Copy
  at_hub = taken_by 1 (off_link example_site up at_edge)

  abbrev pub at_mirror : Copy
  at_mirror = taken_by 2 (off_link example_site copying at_hub)

  abbrev pub given_up : Loss
  given_up = record { copy = 2; relay = 2; list = 0; cause = Cause.GiveUp 0 }

  abbrev s0 : SiteState
  s0 = opening example_site

  abbrev s1 : SiteState
  s1 = record {
    relays = with_relay s0.relays 0 edge1;
    copies = at_edge ∷ [];
    passed = λ a. [];
    losses = [];
    arrivals = record { message = example_message class; origin = edge_input } ∷ [];
  }

  abbrev s2 : SiteState
  s2 = on_relay s1 0 edge2

  abbrev s3 : SiteState
  s3 = on_relay s2 0 edge3

  abbrev s4 : SiteState
  s4 = on_relay s3 0 edge4

  abbrev s5 : SiteState
  s5 = on_relay s4 0 edge5

  abbrev s6 : SiteState
  s6 = sent (on_relay s5 0 edge6) up 0

  abbrev s7 : SiteState
  s7 = sent (on_relay s6 0 edge7) up 0

  abbrev s8 : SiteState
  s8 = on_relay (record s7 { passed = with_passed s7.passed up (0 ∷ []); copies = at_edge ∷ at_hub ∷ [] }) 1 hub1

  abbrev s9 : SiteState
  s9 = on_relay s8 1 hub2

  abbrev s10 : SiteState
  s10 = on_relay s9 1 hub3

  abbrev s11 : SiteState
  s11 = sent (on_relay s10 1 hub4) audit 1

  abbrev s12 : SiteState
  s12 = on_relay s11 1 hub5

  abbrev s13 : SiteState
  s13 = on_relay s12 1 hub6

  abbrev s14 : SiteState
  s14 = sent (on_relay s13 1 hub7) copying 1

  abbrev s15 : SiteState
  s15 = on_relay (record s14 { passed = with_passed s14.passed copying []; copies = at_edge ∷ at_hub ∷ at_mirror ∷ [] }) 2 mirror1

  abbrev s16 : SiteState
  s16 = on_relay s15 2 mirror2

  abbrev s17 : SiteState
  s17 = on_relay s16 2 mirror3

  abbrev pub s18 : SiteState
  s18 = record (on_relay s17 2 mirror4) { losses = given_up ∷ [] }

  step1 : SiteStep example_site s0 (SiteEvent.TakeNew edge_input 0 (example_message class)) s1
  step1 = record {
    node = node 1 1 0;
    message = refl;
    tag = refl;
    step = record { state = edge1; outs = []; step = (false, edge_takes, refl); after = refl };
  }

  step2 : SiteStep example_site s1 (SiteEvent.Inside 0 (Event.Enter 0 0)) s2
  step2 = ((λ h. h), record { state = edge2; outs = []; step = (node 1 1 0, edge_enters, refl); after = refl })

  step3 : SiteStep example_site s2 (SiteEvent.Inside 0 (Event.Grab 1)) s3
  step3 = ((λ h. h), record { state = edge3; outs = []; step = ([], edge_grabs, refl); after = refl })

  step4 : SiteStep example_site s3 (SiteEvent.Inside 0 (Event.Post 1)) s4
  step4 = ((λ h. h), record { state = edge4; outs = []; step = (2, node 2 1 0, false, edge_posts, refl); after = refl })

  step5 : SiteStep example_site s4 (SiteEvent.Inside 0 (Event.Grab 2)) s5
  step5 = ((λ h. h), record { state = edge5; outs = []; step = ([], edge_grabs_again, refl); after = refl })

  step6 : SiteStep example_site s5 (SiteEvent.Inside 0 (Event.Fail 2 true)) s6
  step6 = ((λ h. h), record { state = edge6; outs = _; step = (0, node 2 1 0, edge_fails, refl); after = refl })

  step7 : SiteStep example_site s6 (SiteEvent.Inside 0 (Event.Done 2)) s7
  step7 = ((λ h. h), record { state = edge7; outs = _; step = (0, node 2 1 0, edge_settles, refl); after = refl })

  step8 : SiteStep example_site s7 (SiteEvent.TakeFrom hub_input 0 up 1) s8
  step8 = record {
    leads = refl;
    before = 0 ∷ [];
    tag = 0;
    behind = [];
    on_link = refl;
    stands = refl;
    copy = at_edge;
    is = refl;
    takes = record {
      node = node 0 3 1;
      message = refl;
      tag = refl;
      step = record { state = hub1; outs = []; step = (false, hub_takes, refl); after = refl };
    };
  }

  step9 : SiteStep example_site s8 (SiteEvent.Inside 1 (Event.Enter 0 0)) s9
  step9 = ((λ h. h), record { state = hub2; outs = []; step = (node 0 3 1, hub_enters, refl); after = refl })

  step10 : SiteStep example_site s9 (SiteEvent.Inside 1 (Event.Grab 0)) s10
  step10 = ((λ h. h), record { state = hub3; outs = []; step = ([], hub_grabs, refl); after = refl })

  step11 : SiteStep example_site s10 (SiteEvent.Inside 1 (Event.Done 0)) s11
  step11 = ((λ h. h), record { state = hub4; outs = _; step = (0, node 0 3 1, hub_settles, refl); after = refl })

  step12 : SiteStep example_site s11 (SiteEvent.Inside 1 (Event.Post 0)) s12
  step12 = ((λ h. h), record { state = hub5; outs = []; step = (1, node 1 1 1, false, hub_posts, refl); after = refl })

  step13 : SiteStep example_site s12 (SiteEvent.Inside 1 (Event.Grab 1)) s13
  step13 = ((λ h. h), record { state = hub6; outs = []; step = ([], hub_grabs_again, refl); after = refl })

  step14 : SiteStep example_site s13 (SiteEvent.Inside 1 (Event.Done 1)) s14
  step14 = ((λ h. h), record { state = hub7; outs = _; step = (1, node 1 1 1, hub_copies, refl); after = refl })

  step15 : SiteStep example_site s14 (SiteEvent.TakeFrom mirror_input 0 copying 0) s15
  step15 = record {
    leads = refl;
    before = [];
    tag = 1;
    behind = [];
    on_link = refl;
    stands = refl;
    copy = at_hub;
    is = refl;
    takes = record {
      node = node 0 1 2;
      message = refl;
      tag = refl;
      step = record { state = mirror1; outs = []; step = (false, mirror_takes, refl); after = refl };
    };
  }

  step16 : SiteStep example_site s15 (SiteEvent.Inside 2 (Event.Enter 0 0)) s16
  step16 = ((λ h. h), record { state = mirror2; outs = []; step = (node 0 1 2, mirror_enters, refl); after = refl })

  step17 : SiteStep example_site s16 (SiteEvent.Inside 2 (Event.Grab 0)) s17
  step17 = ((λ h. h), record { state = mirror3; outs = []; step = ([], mirror_grabs, refl); after = refl })

  step18 : SiteStep example_site s17 (SiteEvent.Inside 2 (Event.GiveUp 0 false)) s18
  step18 = ((λ h. h), record { state = mirror4; outs = _; step = (0, node 0 1 2, mirror_gives_up, refl); after = refl })

  later : SiteSteps example_site s9 (drop 9 (example_events class)) s18
  later = (s10, step10, (s11, step11, (s12, step12, (s13, step13, (s14, step14, (s15, step15, (s16, step16, (s17, step17, (s18, step18, refl)))))))))

  pub example_run : Runs example_site (example_events class) s18
  example_run = (s1, step1, (s2, step2, (s3, step3, (s4, step4, (s5, step5, (s6, step6, (s7, step7, (s8, step8, (s9, step9, later)))))))))
