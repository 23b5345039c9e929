-- What the full-delay mark holds isn't posted into a queue in which posts wait, and the post isn't lost.
use Rattle.std.proofs.Common.{◌≡◌, ℕ, ◌≤◌, Bool, true, false, [], refl, sym, subst, arith, inl, inr}
use Rattle.std.specs.Prelude.{◌⊎◌, take}
use Rattle.sy_wire.specs.declared.class.Class.{Class}
use Rattle.sy_marks.specs.Marks.{discards}
use Rattle.sy_rules.specs.declared.lists.occurrence.Occurrence.TheVariants as occurrence
use Rattle.sy_rules.specs.PlanValue.{Plan}
use Rattle.sy_rules.specs.Whole.{queue_for}
use Rattle.sy_board.specs.relay.Cells.{waiting}
use Rattle.sy_board.specs.relay.Plans.{marks_at}
use Rattle.sy_board.specs.relay.Steps.{Cause, Enters, Event, Expires, Grabs, HasRoom, Job, MayBeLost, Posts, Takes}
use Rattle.sy_board.proofs.relay.Patience.{one_job}
use Rattle.sy_site.specs.machine.States.{SiteState, opening}
use Rattle.sy_site.specs.machine.Steps.{Runs, SiteEvent, SiteStep}
use Rattle.sy_site.specs.machine.Examples.{edge_input, example_message, narrow_events}
use Rattle.sy_site.specs.machine.Refusals.{IsRefusedAfter, holding_plan, holding_site}
use Rattle.sy_site.proofs.machine.DueSets.{first_due, lowest}
use Rattle.sy_site.proofs.machine.NarrowRun as narrow
use Rattle.sy_site.proofs.machine.Refused.{same_post}

module _ (class : Class) (size : ℕ) (least : 1 ≤ size) where
  abbrev plan : Plan
  plan = holding_plan size

  takes1 : Takes plan (narrow.r0 class) 0 0 (narrow.node class 0 0) false (narrow.r1 class)
  takes1 = record {
    there =
        (omega arith, omega arith);
    made = record { input_is = refl; list = refl; due = first_due };
    free = refl;
    discarded = refl;
    after = refl;
  }

  enters2 : Enters plan (narrow.r1 class) 0 0 (narrow.node class 0 0) (narrow.r2 class)
  enters2 = record { leaves = record { there = (omega arith, omega arith); held = refl; not_held = refl }; room = omega arith; after = refl }

  takes3 : Takes plan (narrow.r2 class) 0 1 (narrow.node class 0 1) false (narrow.r3 class)
  takes3 = record {
    there =
        (omega arith, omega arith);
    made = record { input_is = refl; list = refl; due = first_due };
    free = refl;
    discarded = refl;
    after = refl;
  }

  expires4 : Expires plan (narrow.r3 class) 0 1 (narrow.node class 0 1) (narrow.r4 class)
  expires4 = record { leaves = record { there = (omega arith, omega arith); held = refl; not_held = refl }; full = omega arith; after = refl }

  grabs5 : Grabs plan (narrow.r4 class) 0 [] (narrow.r5 class)
  grabs5 = record { there = omega arith; idle = refl; some = omega arith; lost_are = refl; after = refl }

  abbrev job6 : Job plan (narrow.r5 class) 0 (occurrence.Post 1)
  job6 = record { there = omega arith; entry = narrow.node class 0 0; others = []; held = refl; number = 0; left = 0; first = lowest; found = refl }

  posts6 : Posts plan (narrow.r5 class) 0 1 (narrow.node class 1 0) false (narrow.r6 class)
  posts6 = record {
    job = job6;
    made = record { message = refl; list_is = refl; input = refl; tag = refl; due = first_due };
    discarded = refl;
    room = inr (record { not_full = omega (arith, least); not_held = refl });
    after = refl;
  }

  takes7 : Takes plan (narrow.r6 class) 0 0 (narrow.node class 0 2) false (narrow.r7 class)
  takes7 = record {
    there =
        (omega arith, omega arith);
    made = record { input_is = refl; list = refl; due = first_due };
    free = refl;
    discarded = refl;
    after = refl;
  }

  enters8 : Enters plan (narrow.r7 class) 0 0 (narrow.node class 0 2) (narrow.r8 class)
  enters8 = record { leaves = record { there = (omega arith, omega arith); held = refl; not_held = refl }; room = omega arith; after = refl }

  grabs9 : Grabs plan (narrow.r8 class) 0 [] (narrow.r9 class)
  grabs9 = record { there = omega arith; idle = refl; some = omega arith; lost_are = refl; after = refl }

  abbrev job10 : Job plan (narrow.r9 class) 0 (occurrence.Post 1)
  job10 = record { there = omega arith; entry = narrow.node class 0 2; others = []; held = refl; number = 0; left = 0; first = lowest; found = refl }

  -- the site

  abbrev s0 : SiteState
  s0 = opening (holding_site size)

  abbrev s1 : SiteState
  s1 = narrow.with_new class s0 (narrow.r1 class) 0

  abbrev s2 : SiteState
  s2 = narrow.on class s1 (narrow.r2 class)

  abbrev s3 : SiteState
  s3 = narrow.with_new class s2 (narrow.r3 class) 1

  abbrev s4 : SiteState
  s4 = narrow.with_loss class (narrow.on class s3 (narrow.r4 class)) 1 0 Cause.Expire

  abbrev s5 : SiteState
  s5 = narrow.on class s4 (narrow.r5 class)

  abbrev s6 : SiteState
  s6 = narrow.on class s5 (narrow.r6 class)

  abbrev s7 : SiteState
  s7 = narrow.with_new class s6 (narrow.r7 class) 2

  abbrev s8 : SiteState
  s8 = narrow.on class s7 (narrow.r8 class)

  abbrev s9 : SiteState
  s9 = narrow.on class s8 (narrow.r9 class)

  step1 : SiteStep (holding_site size) s0 (SiteEvent.TakeNew edge_input 0 (example_message class)) s1
  step1 = record {
    node = narrow.node class 0 0;
    message = refl;
    tag = refl;
    step = record { state = narrow.r1 class; outs = []; step = (false, takes1, refl); after = refl };
  }

  step2 : SiteStep (holding_site size) s1 (SiteEvent.Inside 0 (Event.Enter 0 0)) s2
  step2 = ((λ h. h), record { state = narrow.r2 class; outs = []; step = (narrow.node class 0 0, enters2, refl); after = refl })

  step3 : SiteStep (holding_site size) s2 (SiteEvent.TakeNew edge_input 1 (example_message class)) s3
  step3 = record {
    node = narrow.node class 0 1;
    message = refl;
    tag = refl;
    step = record { state = narrow.r3 class; outs = []; step = (false, takes3, refl); after = refl };
  }

  step4 : SiteStep (holding_site size) s3 (SiteEvent.Inside 0 (Event.Expire 0 1)) s4
  step4 = ((λ h. h), record { state = narrow.r4 class; outs = _; step = (narrow.node class 0 1, expires4, refl); after = refl })

  step5 : SiteStep (holding_site size) s4 (SiteEvent.Inside 0 (Event.Grab 0)) s5
  step5 = ((λ h. h), record { state = narrow.r5 class; outs = []; step = ([], grabs5, refl); after = refl })

  step6 : SiteStep (holding_site size) s5 (SiteEvent.Inside 0 (Event.Post 0)) s6
  step6 = ((λ h. h), record { state = narrow.r6 class; outs = []; step = (1, narrow.node class 1 0, false, posts6, refl); after = refl })

  step7 : SiteStep (holding_site size) s6 (SiteEvent.TakeNew edge_input 0 (example_message class)) s7
  step7 = record {
    node = narrow.node class 0 2;
    message = refl;
    tag = refl;
    step = record { state = narrow.r7 class; outs = []; step = (false, takes7, refl); after = refl };
  }

  step8 : SiteStep (holding_site size) s7 (SiteEvent.Inside 0 (Event.Enter 0 0)) s8
  step8 = ((λ h. h), record { state = narrow.r8 class; outs = []; step = (narrow.node class 0 2, enters8, refl); after = refl })

  step9 : SiteStep (holding_site size) s8 (SiteEvent.Inside 0 (Event.Grab 0)) s9
  step9 = ((λ h. h), record { state = narrow.r9 class; outs = []; step = ([], grabs9, refl); after = refl })

  run5 : Runs (holding_site size) (take 5 (narrow_events class)) s5
  run5 = (s1, step1, (s2, step2, (s3, step3, (s4, step4, (s5, step5, refl)))))

  run9 : Runs (holding_site size) (take 9 (narrow_events class)) s9
  run9 = (s1, step1, (s2, step2, (s3, step3, (s4, step4, (s5, step5, (s6, step6, (s7, step7, (s8, step8, (s9, step9, refl)))))))))

  -- ---- at the mark

  held_there : (lost : Bool) → false ≡ lost → (lost ≡ true) ⊎ HasRoom plan (narrow.r9 class) 1 → ⊥
  held_there lost none (inl is) = cc
  held_there lost none (inr room) = (let free : true ≡ false = room.not_held in cc)

  no_post : (l : ℕ) (lost : Bool) (severity : ℕ) → 1 ≡ l
      → discards (marks_at plan (queue_for plan l)) severity (waiting (narrow.r9 class) (queue_for plan l)) ≡ lost
      → (lost ≡ true) ⊎ HasRoom plan (narrow.r9 class) l → ⊥
  no_post l lost severity same discarded room =
      held_there lost
      (subst (λ z. discards (marks_at plan (queue_for plan z)) severity (waiting (narrow.r9 class) (queue_for plan z)) ≡ lost) (sym same) discarded)
      (subst (λ z. (lost ≡ true) ⊎ HasRoom plan (narrow.r9 class) z) (sym same) room)

  pub held_post : IsRefusedAfter (holding_site size) (take 9 (narrow_events class)) (SiteEvent.Inside 0 (Event.Post 0))
  held_post = (
    s9,
    run9,
    λ new step.
        (let posts = step.1.step.3 in
        no_post step.1.step.0 step.1.step.2 step.1.step.1.message.class.severity
        (same_post 1 step.1.step.0 (one_job plan (narrow.r9 class) 0 _ _ job10 posts.job)) posts.discarded posts.room),
  )

  pub held_full : IsRefusedAfter (holding_site size) (take 9 (narrow_events class)) (SiteEvent.Inside 0 (Event.PostLost 0 false))
  held_full = (
    s9,
    run9,
    λ new step.
        (let loses = step.1.step.2 in
        let cause : MayBeLost plan (narrow.r9 class) 1 false = subst (λ l. MayBeLost plan (narrow.r9 class) l false)
        (sym (same_post 1 step.1.step.0 (one_job plan (narrow.r9 class) 0 _ _ job10 loses.job))) loses.cause in
        let free : true ≡ false = cause.not_held in cc),
  )

  -- ---- below it

  pub no_memory : IsRefusedAfter (holding_site size) (take 5 (narrow_events class)) (SiteEvent.Inside 0 (Event.PostLost 0 true))
  no_memory = (
    s5,
    run5,
    λ new step.
        (let loses = step.1.step.2 in
        let cause : MayBeLost plan (narrow.r5 class) 1 true = subst (λ l. MayBeLost plan (narrow.r5 class) l true)
        (sym (same_post 1 step.1.step.0 (one_job plan (narrow.r5 class) 0 _ _ job6 loses.job))) loses.cause in
        cause refl),
  )
