-- A run in which a forward is given up that its link took.
use Rattle.std.proofs.Common.{true, false, [], ◌∷◌, refl, sym, subst, arith, inr}
use Rattle.std.specs.Prelude.{◌≢◌}
use Rattle.sy_wire.specs.declared.class.Class.{Class}
use Rattle.sy_chain.specs.Entries.{Entry}
use Rattle.sy_rules.proofs.lemmas.plan.Different.{one_differs}
use Rattle.sy_board.specs.relay.Cells as cells
use Rattle.sy_board.specs.relay.Cells.{Cell, RelayState, set_cell, set_failures, hand}
use Rattle.sy_board.specs.relay.Steps.{Cause, Enters, Event, GivesUp, Grabs, Takes}
use Rattle.sy_site.specs.machine.States.{Arrival, Copy, SiteState, opening, with_passed, with_relay}
use Rattle.sy_site.specs.machine.Steps.{Runs, SiteEvent, SiteStep}
use Rattle.sy_site.specs.machine.Safety.{IsWrittenOrHeads, writes}
use Rattle.sy_site.specs.machine.Examples.{audit, edge_input, example_message, hub_input, up}
use Rattle.sy_site.specs.machine.Counterexamples.{Holds, Part, hasty_events, hasty_plan, hasty_site}
use Rattle.sy_site.proofs.machine.DueSets.{first_due, lowest}
use Rattle.sy_site.proofs.machine.ExampleSound.{only_audit_is_named}
use Rattle.sy_site.proofs.machine.Parts.{of_one, one_trail}

module _ (class : Class) where
  abbrev pub node : Entry
  node = record { message = example_message class; list = 1; input = 0; due = 1; tag = 0 }

  abbrev r0 : RelayState
  r0 = cells.opening hasty_plan

  abbrev pub r1 : RelayState
  r1 = set_cell r0 (hand 0 0) (node ∷ [])

  abbrev pub r2 : RelayState
  r2 = set_cell (set_cell r1 (hand 0 0) []) (Cell.Queue 1) (node ∷ [])

  abbrev pub r3 : RelayState
  r3 = set_cell (set_cell r2 (Cell.Queue 1) []) (Cell.Worker 1) (node ∷ [])

  abbrev pub r4 : RelayState
  r4 = set_failures (set_cell r3 (Cell.Worker 1) []) 1 0

  takes1 : Takes hasty_plan r0 0 0 node false r1
  takes1 = record {
    there =
        (omega arith, omega arith);
    made = record { input_is = refl; list = refl; due = first_due };
    free = refl;
    discarded = refl;
    after = refl;
  }

  enters2 : Enters hasty_plan r1 0 0 node r2
  enters2 = record { leaves = record { there = (omega arith, omega arith); held = refl; not_held = refl }; room = omega arith; after = refl }

  grabs3 : Grabs hasty_plan r2 1 [] r3
  grabs3 = record { there = omega arith; idle = refl; some = omega arith; lost_are = refl; after = refl }

  gives4 : GivesUp hasty_plan r3 1 0 node r4
  gives4 = record {
    job = record { there = omega arith; entry = node; others = []; held = refl; number = 0; left = 0; first = lowest; found = refl };
    its = refl;
    last = refl;
    after = refl;
  }

  abbrev pub copy : Copy
  copy = record { number = 0; message = example_message class; origin = edge_input; trail = 0 ∷ []; flag = false }

  abbrev s0 : SiteState
  s0 = opening hasty_site

  abbrev s1 : SiteState
  s1 = record {
    relays = with_relay s0.relays 0 r1;
    copies = copy ∷ [];
    passed = λ a. [];
    losses = [];
    arrivals = record { message = example_message class; origin = edge_input } ∷ [];
  }

  abbrev s2 : SiteState
  s2 = record s1 { relays = with_relay s1.relays 0 r2 }

  abbrev s3 : SiteState
  s3 = record s2 { relays = with_relay s2.relays 0 r3 }

  abbrev pub s4 : SiteState
  s4 = record s3 {
    relays = with_relay s3.relays 0 r4;
    passed = with_passed s3.passed up (0 ∷ []);
    losses = record { copy = 0; relay = 0; list = 1; cause = Cause.GiveUp 0 } ∷ [];
  }

  step1 : SiteStep hasty_site s0 (SiteEvent.TakeNew edge_input 0 (example_message class)) s1
  step1 = record { node = node; message = refl; tag = refl; step = record { state = r1; outs = []; step = (false, takes1, refl); after = refl } }

  step2 : SiteStep hasty_site s1 (SiteEvent.Inside 0 (Event.Enter 0 0)) s2
  step2 = ((λ h. h), record { state = r2; outs = []; step = (node, enters2, refl); after = refl })

  step3 : SiteStep hasty_site s2 (SiteEvent.Inside 0 (Event.Grab 1)) s3
  step3 = ((λ h. h), record { state = r3; outs = []; step = ([], grabs3, refl); after = refl })

  step4 : SiteStep hasty_site s3 (SiteEvent.Inside 0 (Event.GiveUp 1 true)) s4
  step4 = ((λ h. h), record { state = r4; outs = _; step = (0, node, gives4, refl); after = refl })

  pub hasty_run : Runs hasty_site (hasty_events class) s4
  hasty_run = (s1, step1, (s2, step2, (s3, step3, (s4, step4, refl))))

  heads : IsWrittenOrHeads hasty_site s4 audit 0
  heads = inr (inr (record {
    link = up;
    to = hub_input;
    leads = refl;
    tag = 0;
    there = (0, omega arith, refl);
    copy = record { copy = copy; is = refl; numbered = refl };
    plain = refl;
    heads = writes 0 (record { number = 0; member = refl; found = refl; firm = refl }) refl;
  }))

  abbrev arrival : Arrival
  arrival = record { message = example_message class; origin = edge_input }

  pub others : (other : Part) → other ≢ Part.NotLost → Holds hasty_site s4 other
  others Part.Kept differs = of_one hasty_site s4 arrival refl Part.Kept
      (λ archive named. subst (λ z. IsWrittenOrHeads hasty_site s4 z 0) (sym (only_audit_is_named class archive named)) heads)
  others Part.NotLost differs = absurd (differs refl)
  others Part.HeldOnce differs = of_one hasty_site s4 arrival refl Part.HeldOnce
      (λ relay cell entry there c. one_trail copy entry.tag (one_differs 0) c)
  others Part.PassedOnce differs = of_one hasty_site s4 arrival refl Part.PassedOnce
      (λ action tag there c. one_trail copy tag (one_differs 0) c)
