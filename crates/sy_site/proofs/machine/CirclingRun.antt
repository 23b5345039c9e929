-- A run in which a flagged copy comes to a relay twice, while the archive has the message.
use Rattle.std.proofs.Common.{◌≡◌, ℕ, ◌==◌, Bool, true, false, List, [], ◌∷◌, refl, sym, subst, arith, inl}
use Rattle.std.specs.Prelude.{◌≢◌, drop, take}
use Rattle.std.specs.List.{Contains}
use Rattle.std.proofs.lemmas.Bool.{eqb-true}
use Rattle.sy_wire.specs.declared.class.Class.{Class}
use Rattle.sy_chain.specs.Entries.{Entry}
use Rattle.sy_rules.specs.Whole.{AreDifferent}
use Rattle.sy_rules.proofs.lemmas.plan.Different.{one_differs}
use Rattle.sy_board.specs.relay.Cells as cells
use Rattle.sy_board.specs.relay.Cells.{Cell, RelayState, at, set_cell, set_failures, hand}
use Rattle.sy_board.specs.relay.Steps.{Enters, Event, Grabs, Settles, Takes}
use Rattle.sy_board.proofs.relay.Keeps.{Each}
use Rattle.sy_board.proofs.relay.Marks.{empty_everywhere}
use Rattle.sy_site.specs.Sites.{SiteAction, plan_at}
use Rattle.sy_site.specs.machine.States.{Arrival, Copy, SiteState, opening, with_passed, with_relay}
use Rattle.sy_site.specs.machine.Steps.{Runs, SiteEvent, SiteStep, SiteSteps}
use Rattle.sy_site.specs.machine.Safety.{IsCopyOf, IsWrittenOrHeads}
use Rattle.sy_site.specs.machine.Examples.{audit, edge_input, edge_plan, example_message, hub_input, up}
use Rattle.sy_site.specs.machine.Counterexamples.{Holds, Part, back, circling_events, circling_plan, circling_site}
use Rattle.sy_site.proofs.machine.EdgeRun as edge
use Rattle.sy_site.proofs.machine.DueSets.{both_due, lowest_of_both, second_of_both}
use Rattle.sy_site.proofs.machine.ExampleSound.{only_audit_is_named}
use Rattle.sy_site.proofs.machine.ExampleWhole.{two_differ}
use Rattle.sy_site.proofs.machine.Naming.{each_in}
use Rattle.sy_site.proofs.machine.Parts.{none_there, of_one}
use Rattle.sy_site.proofs.machine.Spread.{action_elim, some_same}

module _ (class : Class) where
  -- at hub

  abbrev node : ℕ → Entry
  node due = record { message = example_message class; list = 0; input = 0; due = due; tag = 1 }

  abbrev h0 : RelayState
  h0 = cells.opening circling_plan

  abbrev h1 : RelayState
  h1 = set_cell h0 (hand 0 0) (node 3 ∷ [])

  abbrev h2 : RelayState
  h2 = set_cell (set_cell h1 (hand 0 0) []) (Cell.Queue 0) (node 3 ∷ [])

  abbrev h3 : RelayState
  h3 = set_cell (set_cell h2 (Cell.Queue 0) []) (Cell.Worker 0) (node 3 ∷ [])

  abbrev h4 : RelayState
  h4 = set_failures (set_cell h3 (Cell.Worker 0) (node 2 ∷ [])) 0 0

  abbrev h5 : RelayState
  h5 = set_failures (set_cell h4 (Cell.Worker 0) []) 0 0

  takes5 : Takes circling_plan h0 0 0 (node 3) false h1
  takes5 = record {
    there =
        (omega arith, omega arith);
    made = record { input_is = refl; list = refl; due = both_due };
    free = refl;
    discarded = refl;
    after = refl;
  }

  enters6 : Enters circling_plan h1 0 0 (node 3) h2
  enters6 = record { leaves = record { there = (omega arith, omega arith); held = refl; not_held = refl }; room = omega arith; after = refl }

  grabs7 : Grabs circling_plan h2 0 [] h3
  grabs7 = record { there = omega arith; idle = refl; some = omega arith; lost_are = refl; after = refl }

  settles8 : Settles circling_plan h3 0 0 (node 3) h4
  settles8 = record {
    job = record { there = omega arith; entry = node 3; others = []; held = refl; number = 0; left = 2; first = lowest_of_both; found = refl };
    its = refl;
    after = refl;
  }

  settles9 : Settles circling_plan h4 0 1 (node 2) h5
  settles9 = record {
    job = record { there = omega arith; entry = node 2; others = []; held = refl; number = 1; left = 0; first = second_of_both; found = refl };
    its = refl;
    after = refl;
  }

  -- the site

  abbrev pub copy : List ℕ → Bool → Copy
  copy trail flag = record { number = 0; message = example_message class; origin = edge_input; trail = trail; flag = flag }

  abbrev on : SiteState → ℕ → RelayState → SiteState
  on s relay state = record s { relays = with_relay s.relays relay state }

  abbrev s0 : SiteState
  s0 = opening circling_site

  abbrev s1 : SiteState
  s1 = record {
    relays = with_relay s0.relays 0 (edge.r1 class 0);
    copies = copy (0 ∷ []) false ∷ [];
    passed = λ a. [];
    losses = [];
    arrivals = record { message = example_message class; origin = edge_input } ∷ [];
  }

  abbrev s2 : SiteState
  s2 = on s1 0 (edge.r2 class 0)

  abbrev s3 : SiteState
  s3 = on s2 0 (edge.r3 class 0)

  abbrev s4 : SiteState
  s4 = record (on s3 0 (edge.r4 class 0)) { passed = with_passed s3.passed up (0 ∷ []) }

  abbrev s5 : SiteState
  s5 = record (on s4 1 h1) { passed = with_passed s4.passed up []; copies = copy (0 ∷ []) false ∷ copy (0 ∷ 1 ∷ []) false ∷ [] }

  abbrev s6 : SiteState
  s6 = on s5 1 h2

  abbrev s7 : SiteState
  s7 = on s6 1 h3

  abbrev s8 : SiteState
  s8 = record (on s7 1 h4) { passed = with_passed s7.passed audit (1 ∷ []) }

  abbrev s9 : SiteState
  s9 = record (on s8 1 h5) { passed = with_passed s8.passed back (1 ∷ []) }

  abbrev pub s10 : SiteState
  s10 = record (on s9 0 (edge.r1 class 2)) {
    passed = with_passed s9.passed back [];
    copies = copy (0 ∷ []) false ∷ copy (0 ∷ 1 ∷ []) false ∷ copy (0 ∷ 1 ∷ 0 ∷ []) true ∷ [];
  }

  abbrev s11 : SiteState
  s11 = on s10 0 (edge.r2 class 2)

  abbrev s12 : SiteState
  s12 = on s11 0 (edge.r3 class 2)

  abbrev pub s13 : SiteState
  s13 = record (on s12 0 (edge.r4 class 2)) { passed = with_passed s12.passed up (2 ∷ []) }

  step1 : SiteStep circling_site s0 (SiteEvent.TakeNew edge_input 0 (example_message class)) s1
  step1 = record {
    node = edge.node class 0;
    message = refl;
    tag = refl;
    step = record { state = edge.r1 class 0; outs = []; step = (false, edge.takes class 0, refl); after = refl };
  }

  step2 : SiteStep circling_site s1 (SiteEvent.Inside 0 (Event.Enter 0 0)) s2
  step2 = ((λ h. h), record { state = edge.r2 class 0; outs = []; step = (edge.node class 0, edge.enters class 0, refl); after = refl })

  step3 : SiteStep circling_site s2 (SiteEvent.Inside 0 (Event.Grab 1)) s3
  step3 = ((λ h. h), record { state = edge.r3 class 0; outs = []; step = ([], edge.grabs class 0, refl); after = refl })

  step4 : SiteStep circling_site s3 (SiteEvent.Inside 0 (Event.Done 1)) s4
  step4 = ((λ h. h), record { state = edge.r4 class 0; outs = _; step = (0, edge.node class 0, edge.settles class 0, refl); after = refl })

  step5 : SiteStep circling_site s4 (SiteEvent.TakeFrom hub_input 0 up 0) s5
  step5 = record {
    leads = refl;
    before = [];
    tag = 0;
    behind = [];
    on_link = refl;
    stands = refl;
    copy = copy (0 ∷ []) false;
    is = refl;
    takes = record {
      node = node 3;
      message = refl;
      tag = refl;
      step = record { state = h1; outs = []; step = (false, takes5, refl); after = refl };
    };
  }

  step6 : SiteStep circling_site s5 (SiteEvent.Inside 1 (Event.Enter 0 0)) s6
  step6 = ((λ h. h), record { state = h2; outs = []; step = (node 3, enters6, refl); after = refl })

  step7 : SiteStep circling_site s6 (SiteEvent.Inside 1 (Event.Grab 0)) s7
  step7 = ((λ h. h), record { state = h3; outs = []; step = ([], grabs7, refl); after = refl })

  step8 : SiteStep circling_site s7 (SiteEvent.Inside 1 (Event.Done 0)) s8
  step8 = ((λ h. h), record { state = h4; outs = _; step = (0, node 3, settles8, refl); after = refl })

  step9 : SiteStep circling_site s8 (SiteEvent.Inside 1 (Event.Done 0)) s9
  step9 = ((λ h. h), record { state = h5; outs = _; step = (1, node 2, settles9, refl); after = refl })

  step10 : SiteStep circling_site s9 (SiteEvent.TakeFrom edge_input 0 back 0) s10
  step10 = record {
    leads = refl;
    before = [];
    tag = 1;
    behind = [];
    on_link = refl;
    stands = refl;
    copy = copy (0 ∷ 1 ∷ []) false;
    is = refl;
    takes = record {
      node = edge.node class 2;
      message = refl;
      tag = refl;
      step = record { state = edge.r1 class 2; outs = []; step = (false, edge.takes class 2, refl); after = refl };
    };
  }

  step11 : SiteStep circling_site s10 (SiteEvent.Inside 0 (Event.Enter 0 0)) s11
  step11 = ((λ h. h), record { state = edge.r2 class 2; outs = []; step = (edge.node class 2, edge.enters class 2, refl); after = refl })

  step12 : SiteStep circling_site s11 (SiteEvent.Inside 0 (Event.Grab 1)) s12
  step12 = ((λ h. h), record { state = edge.r3 class 2; outs = []; step = ([], edge.grabs class 2, refl); after = refl })

  step13 : SiteStep circling_site s12 (SiteEvent.Inside 0 (Event.Done 1)) s13
  step13 = ((λ h. h), record { state = edge.r4 class 2; outs = _; step = (0, edge.node class 2, edge.settles class 2, refl); after = refl })

  pub held_run : Runs circling_site (take 10 (circling_events class)) s10
  held_run = (s1, step1, (s2, step2, (s3, step3, (s4, step4, (s5, step5, (s6, step6, (s7, step7, (s8, step8, (s9, step9, (s10, step10, refl))))))))))

  later : SiteSteps circling_site s8 (drop 8 (circling_events class)) s13
  later = (s9, step9, (s10, step10, (s11, step11, (s12, step12, (s13, step13, refl)))))

  pub link_run : Runs circling_site (circling_events class) s13
  link_run = (s1, step1, (s2, step2, (s3, step3, (s4, step4, (s5, step5, (s6, step6, (s7, step7, (s8, step8, later))))))))

  -- ---- what is promised, and what isn't

  abbrev arrival : Arrival
  arrival = record { message = example_message class; origin = edge_input }

  pub not_different : AreDifferent {A = ℕ} (0 ∷ 1 ∷ 0 ∷ []) → ⊥
  not_different different = different 0 2 0 (omega arith) (omega arith) refl

  held_written : IsWrittenOrHeads circling_site s10 audit 0
  held_written = inl (record {
    tag = 1;
    there = (0, omega arith, refl);
    copy = record { copy = copy (0 ∷ 1 ∷ []) false; is = refl; numbered = refl };
    plain = refl;
  })

  link_written : IsWrittenOrHeads circling_site s13 audit 0
  link_written = inl (record {
    tag = 1;
    there = (0, omega arith, refl);
    copy = record { copy = copy (0 ∷ 1 ∷ []) false; is = refl; numbered = refl };
    plain = refl;
  })

  -- the first two copies came to no relay twice
  abbrev Once : ℕ → Type 0
  Once tag = (c : IsCopyOf s10.copies 0 tag) → AreDifferent c.copy.trail

  once0 : Once 0
  once0 c = subst (λ (z : Copy). AreDifferent z.trail) (some_same c.is) (one_differs 0)

  once1 : Once 1
  once1 c = subst (λ (z : Copy). AreDifferent z.trail) (some_same c.is) (two_differ 0 1 (λ e. omega (arith, e)))

  passed_once : (action : SiteAction) → Each Once (s10.passed action)
  passed_once = action_elim (λ action. Each Once) s9.passed back [] tt
      (action_elim (λ action. Each Once) s8.passed back (1 ∷ []) (once1, tt)
      (action_elim (λ action. Each Once) s5.passed audit (1 ∷ []) (once1, tt)
      (action_elim (λ action. Each Once) s4.passed up [] tt
      (action_elim (λ action. Each Once) (λ a. []) up (0 ∷ []) (once0, tt) (λ action. tt)))))

  pub held_others : (other : Part) → other ≢ Part.HeldOnce → Holds circling_site s10 other
  held_others Part.Kept differs = of_one circling_site s10 arrival refl Part.Kept
      (λ archive named. subst (λ z. IsWrittenOrHeads circling_site s10 z 0) (sym (only_audit_is_named class archive named)) held_written)
  held_others Part.NotLost differs = of_one circling_site s10 arrival refl Part.NotLost (λ loss there c plain. none_there loss there)
  held_others Part.HeldOnce differs = absurd (differs refl)
  held_others Part.PassedOnce differs = of_one circling_site s10 arrival refl Part.PassedOnce
      (λ action tag there c. each_in Once (s10.passed action) (passed_once action) tag there c)

  nothing_held : (relay : ℕ) (cell : Cell) → at (s13.relays relay) cell ≡ []
  nothing_held relay cell = go (0 == relay) (1 == relay) refl refl
    where
      go : (a b : Bool) → (0 == relay) ≡ a → (1 == relay) ≡ b → at (s13.relays relay) cell ≡ []
      go true b e f = subst (λ z. at (s13.relays z) cell ≡ []) (eqb-true 0 relay e) (empty_everywhere edge_plan cell)
      go false true e f = subst (λ z. at (s13.relays z) cell ≡ []) (eqb-true 1 relay f) (empty_everywhere circling_plan cell)
      go false false e f = rw (e, f) (empty_everywhere (plan_at circling_site relay) cell)

  pub link_others : (other : Part) → other ≢ Part.PassedOnce → Holds circling_site s13 other
  link_others Part.Kept differs = of_one circling_site s13 arrival refl Part.Kept
      (λ archive named. subst (λ z. IsWrittenOrHeads circling_site s13 z 0) (sym (only_audit_is_named class archive named)) link_written)
  link_others Part.NotLost differs = of_one circling_site s13 arrival refl Part.NotLost (λ loss there c plain. none_there loss there)
  link_others Part.HeldOnce differs = of_one circling_site s13 arrival refl Part.HeldOnce
      (λ relay cell entry there c. absurd (none_there entry (subst (λ z. Contains z entry) (nothing_held relay cell) there)))
  link_others Part.PassedOnce differs = absurd (differs refl)
