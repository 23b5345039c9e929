-- What the full-delay mark holds neither enters nor expires.
use Rattle.std.proofs.Common.{◌≡◌, ℕ, ◌≤◌, true, false, [], refl, arith}
use Rattle.sy_wire.specs.declared.class.Class.{Class}
use Rattle.sy_board.specs.relay.Steps.{Enters, Event, Takes}
use Rattle.sy_site.specs.machine.States.{SiteState, opening}
use Rattle.sy_site.specs.machine.Steps.{Runs, SiteEvent, SiteStep}
use Rattle.sy_site.specs.machine.Examples.{edge_input, example_message}
use Rattle.sy_site.specs.machine.Refusals.{IsRefusedAfter, marked_events, marked_plan, marked_site}
use Rattle.sy_site.proofs.machine.DueSets.{first_due}
use Rattle.sy_site.proofs.machine.NarrowRun as narrow

module _ (class : Class) (size : ℕ) (least : 1 ≤ size) where
  takes1 : Takes (marked_plan size) (narrow.r0 class) 0 0 (narrow.node class 0 0) false (narrow.r1 class)
  takes1 = record {
    there =
        (omega arith, omega arith);
    made = record { input_is = refl; list = refl; due = first_due };
    free = refl;
    discarded = refl;
    after = refl;
  }

  enters2 : Enters (marked_plan size) (narrow.r1 class) 0 0 (narrow.node class 0 0) (narrow.r2 class)
  enters2 = record {
    leaves = record { there = (omega arith, omega arith); held = refl; not_held = refl };
    room = omega (arith, least);
    after = refl;
  }

  takes3 : Takes (marked_plan size) (narrow.r2 class) 0 1 (narrow.node class 0 1) false (narrow.r3 class)
  takes3 = record {
    there =
        (omega arith, omega arith);
    made = record { input_is = refl; list = refl; due = first_due };
    free = refl;
    discarded = refl;
    after = refl;
  }

  abbrev s0 : SiteState
  s0 = opening (marked_site size)

  abbrev s1 : SiteState
  s1 = narrow.with_new class s0 (narrow.r1 class) 0

  abbrev s2 : SiteState
  s2 = narrow.on class s1 (narrow.r2 class)

  abbrev s3 : SiteState
  s3 = narrow.with_new class s2 (narrow.r3 class) 1

  step1 : SiteStep (marked_site size) s0 (SiteEvent.TakeNew edge_input 0 (example_message class)) s1
  step1 = record {
    node = narrow.node class 0 0;
    message = refl;
    tag = refl;
    step = record { state = narrow.r1 class; outs = []; step = (false, takes1, refl); after = refl };
  }

  step2 : SiteStep (marked_site size) s1 (SiteEvent.Inside 0 (Event.Enter 0 0)) s2
  step2 = ((λ h. h), record { state = narrow.r2 class; outs = []; step = (narrow.node class 0 0, enters2, refl); after = refl })

  step3 : SiteStep (marked_site size) s2 (SiteEvent.TakeNew edge_input 1 (example_message class)) s3
  step3 = record {
    node = narrow.node class 0 1;
    message = refl;
    tag = refl;
    step = record { state = narrow.r3 class; outs = []; step = (false, takes3, refl); after = refl };
  }

  run : Runs (marked_site size) (marked_events class) s3
  run = (s1, step1, (s2, step2, (s3, step3, refl)))

  pub held_enter : IsRefusedAfter (marked_site size) (marked_events class) (SiteEvent.Inside 0 (Event.Enter 0 1))
  held_enter = (s3, run, λ new step. (let free : true ≡ false = step.1.step.1.leaves.not_held in cc))

  pub held_expiry : IsRefusedAfter (marked_site size) (marked_events class) (SiteEvent.Inside 0 (Event.Expire 0 1))
  held_expiry = (s3, run, λ new step. (let free : true ≡ false = step.1.step.1.leaves.not_held in cc))
