-- One message of a class that isn't protected goes round for ever: after its first steps own steps follow without end.
use Rattle.std.proofs.Common.{◌≡◌, ℕ, ◌≤◌, Bool, true, false, List, [], ◌∷◌, length, refl, sym, subst, arith, inr}
use Rattle.sy_wire.specs.declared.class.Class.{Class}
use Rattle.sy_chain.specs.Entries.{Entry}
use Rattle.sy_select.specs.Selectors.{holds}
use Rattle.sy_rules.specs.lists.Body.{executed, is_in}
use Rattle.sy_rules.specs.lists.Sets.{Bits}
use Rattle.sy_rules.specs.Whole.{body_at}
use Rattle.sy_board.specs.relay.Cells as cells
use Rattle.sy_board.specs.relay.Cells.{Cell, RelayState, hand, set_cell, set_failures}
use Rattle.sy_board.specs.relay.Plans.{IsDue}
use Rattle.sy_board.specs.relay.Steps.{Enters, Event, Grabs, Posts, Step, Takes}
use Rattle.sy_site.specs.machine.States.{Copy, SiteState, opening, with_relay}
use Rattle.sy_site.specs.machine.Steps.{IsTake, Runs, SiteEvent, SiteStep}
use Rattle.sy_site.specs.machine.Examples.{edge_input, example_message}
use Rattle.sy_flowing.specs.OwnSteps.{IsOwnEvent, OwnStep, OwnSteps}
use Rattle.sy_flowing.specs.Jams.{IsOther, auth_selector, round_events, round_plan, round_site}
use Rattle.sy_site.proofs.machine.DueSets.{first_due, lowest}

module _ (other : Class) (is_other : IsOther other) where
  due_a : IsDue round_plan 1 (example_message other) 1
  due_a = go (holds auth_selector other.facility other.severity) is_other
    where
      go : (b : Bool) → b ≡ false → Bits (λ k. is_in k (executed (body_at round_plan 1) (b ∷ [])) ≡ true) 1
      go true e = absurd (cc)
      go false e = first_due

  abbrev a : Entry
  a = record { message = example_message other; list = 1; input = 0; due = 1; tag = 0 }

  abbrev b : Entry
  b = record { message = example_message other; list = 2; input = 0; due = 1; tag = 0 }

  -- the relay, where one queue or one worker has these and nothing else is held
  abbrev holding : List Entry → List Entry → List Entry → List Entry → RelayState
  holding queue_a queue_b worker_a worker_b = record {
    hands = (cells.opening round_plan).hands;
    queues = [] ∷ queue_a ∷ queue_b ∷ [];
    workers = [] ∷ worker_a ∷ worker_b ∷ [];
    failures = 0 ∷ 0 ∷ 0 ∷ [];
  }

  abbrev in_a : RelayState
  in_a = holding (a ∷ []) [] [] []

  abbrev at_a : RelayState
  at_a = holding [] [] (a ∷ []) []

  abbrev in_b : RelayState
  in_b = holding [] (b ∷ []) [] []

  abbrev at_b : RelayState
  at_b = holding [] [] [] (b ∷ [])

  grabs_a : Grabs round_plan in_a 1 [] at_a
  grabs_a = record { there = omega arith; idle = refl; some = omega arith; lost_are = refl; after = refl }

  posts_a : Posts round_plan at_a 1 2 b false in_b
  posts_a = record {
    job = record { there = omega arith; entry = a; others = []; held = refl; number = 0; left = 0; first = lowest; found = refl };
    made = record { message = refl; list_is = refl; input = refl; tag = refl; due = first_due };
    discarded = refl;
    room = inr (record { not_full = omega arith; not_held = refl });
    after = refl;
  }

  grabs_b : Grabs round_plan in_b 2 [] at_b
  grabs_b = record { there = omega arith; idle = refl; some = omega arith; lost_are = refl; after = refl }

  posts_b : Posts round_plan at_b 2 1 a false in_a
  posts_b = record {
    job = record { there = omega arith; entry = b; others = []; held = refl; number = 0; left = 0; first = lowest; found = refl };
    made = record { message = refl; list_is = refl; input = refl; tag = refl; due = due_a };
    discarded = refl;
    room = inr (record { not_full = omega arith; not_held = refl });
    after = refl;
  }

  abbrev on : SiteState → RelayState → SiteState
  on s state = record s { relays = with_relay s.relays 0 state }

  -- an own step of the relay, by which nothing is set_cell out
  own : (bound : ℕ) (s : SiteState) (old new : RelayState) (event : Event) → s.relays 0 ≡ old → IsOwnEvent event → (IsTake event → ⊥)
      → Step round_plan old event new [] → OwnStep round_site bound s (SiteEvent.Inside 0 event) (on s new)
  own bound s old new event is goes other_step step = record {
    own = goes;
    step = (other_step, record { state = new; outs = []; step = subst (λ st. Step round_plan st event new []) (sym is) step; after = refl });
    within = λ link to leads. inr (omega arith);
  }

  -- once round, and again
  pub rounds : (bound n : ℕ) (s : SiteState) → s.relays 0 ≡ in_a
      → (events : List SiteEvent) × (end : SiteState) × OwnSteps round_site bound s events end × (n ≤ length events)
  rounds bound ℕ.zero s is = ([], s, refl, omega arith)
  rounds bound (ℕ.suc n) s is =
      let s1 = on s at_a in
      let s2 = on s1 in_b in
      let s3 = on s2 at_b in
      let s4 = on s3 in_a in
      let more = rounds bound n s4 refl in
      let longer = more.3 in (
        SiteEvent.Inside 0 (Event.Grab 1) ∷ SiteEvent.Inside 0 (Event.Post 1) ∷ SiteEvent.Inside 0 (Event.Grab 2) ∷ SiteEvent.Inside 0 (Event.Post 2) ∷ more.0,
        more.1,
        (
          s1,
          own bound s in_a at_a (Event.Grab 1) is tt (λ t. t) ([], grabs_a, refl),
          (
            s2,
            own bound s1 at_a in_b (Event.Post 1) refl tt (λ t. t) (2, b, false, posts_a, refl),
            (
              s3,
              own bound s2 in_b at_b (Event.Grab 2) refl tt (λ t. t) ([], grabs_b, refl),
              (s4, own bound s3 at_b in_a (Event.Post 2) refl tt (λ t. t) (1, a, false, posts_b, refl), more.2),
            ),
          ),
        ),
        omega (arith, longer),
      )

  -- ---- the first two steps

  abbrev r0 : RelayState
  r0 = cells.opening round_plan

  abbrev r1 : RelayState
  r1 = set_cell r0 (hand 0 0) (a ∷ [])

  takes1 : Takes round_plan r0 0 0 a false r1
  takes1 = record { there = (omega arith, omega arith); made = record { input_is = refl; list = refl; due = due_a }; free = refl; discarded = refl; after = refl }

  enters2 : Enters round_plan r1 0 0 a in_a
  enters2 = record { leaves = record { there = (omega arith, omega arith); held = refl; not_held = refl }; room = omega arith; after = refl }

  abbrev copy : Copy
  copy = record { number = 0; message = example_message other; origin = edge_input; trail = 0 ∷ []; flag = false }

  abbrev s0 : SiteState
  s0 = opening round_site

  abbrev s1 : SiteState
  s1 = record s0 {
    relays = with_relay s0.relays 0 r1;
    copies = copy ∷ [];
    arrivals = record { message = example_message other; origin = edge_input } ∷ [];
  }

  abbrev s2 : SiteState
  s2 = on s1 in_a

  step1 : SiteStep round_site s0 (SiteEvent.TakeNew edge_input 0 (example_message other)) s1
  step1 = record { node = a; message = refl; tag = refl; step = record { state = r1; outs = []; step = (false, takes1, refl); after = refl } }

  step2 : SiteStep round_site s1 (SiteEvent.Inside 0 (Event.Enter 0 0)) s2
  step2 = ((λ h. h), record { state = in_a; outs = []; step = (a, enters2, refl); after = refl })

  pub goes_round : (state : SiteState) × Runs round_site (round_events other) state
      × ((bound n : ℕ) → (events : List SiteEvent) × (end : SiteState) × OwnSteps round_site bound state events end × (n ≤ length events))
  goes_round = (s2, (s1, step1, (s2, step2, refl)), λ bound n. rounds bound n s2 refl)
