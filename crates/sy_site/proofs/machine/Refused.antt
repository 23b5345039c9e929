-- Events that are no steps behind runs of the narrow site, and of the marked one.
use Rattle.std.proofs.Common.{◌≡◌, ℕ, ◌<◌, Bool, true, false, [], ◌∷◌, ◌++◌, refl, sym, subst, arith, inl, inr}
use Rattle.std.specs.Prelude.{◌⊎◌, take}
use Rattle.sy_wire.specs.declared.class.Class.{Class}
use Rattle.sy_marks.specs.Marks.{discards}
use Rattle.sy_rules.specs.declared.lists.occurrence.Occurrence.TheVariants as occurrence
use Rattle.sy_rules.specs.Whole.{queue_for}
use Rattle.sy_board.specs.relay.Cells.{Cell, RelayState, set_cell, hand, waiting}
use Rattle.sy_board.specs.relay.Plans.{marks_at}
use Rattle.sy_board.specs.relay.Steps.{Enters, Event, HasRoom, Takes}
use Rattle.sy_board.proofs.relay.Excluded.{enter_or_expire, fail_or_give_up, post_or_lose}
use Rattle.sy_board.proofs.relay.Patience.{one_job}
use Rattle.sy_site.specs.machine.States.{SiteState, opening}
use Rattle.sy_site.specs.machine.Steps.{Runs, SiteEvent, SiteStep}
use Rattle.sy_site.specs.machine.Examples.{edge_input, example_message, narrow_events, narrow_plan, narrow_site}
use Rattle.sy_site.specs.machine.Refusals.{IsRefusedAfter, busy_events}
use Rattle.sy_site.proofs.machine.DueSets.{first_due}
use Rattle.sy_site.proofs.machine.NarrowRun as narrow
use Rattle.sy_site.proofs.machine.SafeRun.{steps_on}

post_is_no_run : (list action : ℕ) → occurrence.Post list ≡ occurrence.Run action → ⊥
post_is_no_run list action e = cc

pub same_post : (k l : ℕ) → occurrence.Post k ≡ occurrence.Post l → k ≡ l
same_post k l e = cc

module _ (class : Class) where
  -- the run, event by event

  further : (n : ℕ) (mid : SiteState) (event : SiteEvent) (new : SiteState) → Runs narrow_site (take n (narrow_events class)) mid
      → SiteStep narrow_site mid event new → Runs narrow_site (take n (narrow_events class) ++ event ∷ []) new
  further n mid event new = steps_on narrow_site (opening narrow_site) (take n (narrow_events class)) mid event new

  run1 : Runs narrow_site (take 1 (narrow_events class)) (narrow.s1 class)
  run1 = (narrow.s1 class, narrow.step1 class, refl)

  run2 : Runs narrow_site (take 2 (narrow_events class)) (narrow.s2 class)
  run2 = further 1 (narrow.s1 class) (SiteEvent.Inside 0 (Event.Enter 0 0)) (narrow.s2 class) run1 (narrow.step2 class)

  run3 : Runs narrow_site (take 3 (narrow_events class)) (narrow.s3 class)
  run3 = further 2 (narrow.s2 class) (SiteEvent.TakeNew edge_input 1 (example_message class)) (narrow.s3 class) run2 (narrow.step3 class)

  run4 : Runs narrow_site (take 4 (narrow_events class)) (narrow.s4 class)
  run4 = further 3 (narrow.s3 class) (SiteEvent.Inside 0 (Event.Expire 0 1)) (narrow.s4 class) run3 (narrow.step4 class)

  run5 : Runs narrow_site (take 5 (narrow_events class)) (narrow.s5 class)
  run5 = further 4 (narrow.s4 class) (SiteEvent.Inside 0 (Event.Grab 0)) (narrow.s5 class) run4 (narrow.step5 class)

  run6 : Runs narrow_site (take 6 (narrow_events class)) (narrow.s6 class)
  run6 = further 5 (narrow.s5 class) (SiteEvent.Inside 0 (Event.Post 0)) (narrow.s6 class) run5 (narrow.step6 class)

  run7 : Runs narrow_site (take 7 (narrow_events class)) (narrow.s7 class)
  run7 = further 6 (narrow.s6 class) (SiteEvent.TakeNew edge_input 0 (example_message class)) (narrow.s7 class) run6 (narrow.step7 class)

  run8 : Runs narrow_site (take 8 (narrow_events class)) (narrow.s8 class)
  run8 = further 7 (narrow.s7 class) (SiteEvent.Inside 0 (Event.Enter 0 0)) (narrow.s8 class) run7 (narrow.step8 class)

  run9 : Runs narrow_site (take 9 (narrow_events class)) (narrow.s9 class)
  run9 = further 8 (narrow.s8 class) (SiteEvent.Inside 0 (Event.Grab 0)) (narrow.s9 class) run8 (narrow.step9 class)

  run10 : Runs narrow_site (take 10 (narrow_events class)) (narrow.s10 class)
  run10 = further 9 (narrow.s9 class) (SiteEvent.Inside 0 (Event.PostLost 0 false)) (narrow.s10 class) run9 (narrow.step10 class)

  run11 : Runs narrow_site (take 11 (narrow_events class)) (narrow.s11 class)
  run11 = further 10 (narrow.s10 class) (SiteEvent.Inside 0 (Event.Grab 1)) (narrow.s11 class) run10 (narrow.step11 class)

  run12 : Runs narrow_site (take 12 (narrow_events class)) (narrow.s12 class)
  run12 = further 11 (narrow.s11 class) (SiteEvent.Inside 0 (Event.Fail 1 false)) (narrow.s12 class) run11 (narrow.step12 class)

  -- ---- takes

  pub occupied : IsRefusedAfter narrow_site (take 1 (narrow_events class)) (SiteEvent.TakeNew edge_input 0 (example_message class))
  occupied = (narrow.s1 class, run1, λ new step. (let free : narrow.node class 0 0 ∷ [] ≡ [] = step.step.step.1.free in cc))

  pub no_hand : IsRefusedAfter narrow_site (take 1 (narrow_events class)) (SiteEvent.TakeNew edge_input 64 (example_message class))
  no_hand = (narrow.s1 class, run1, λ new step. (let below : 64 < 64 = step.step.step.1.there.1 in omega (arith, below)))

  -- ---- what a hand holds

  pub full : IsRefusedAfter narrow_site (take 3 (narrow_events class)) (SiteEvent.Inside 0 (Event.Enter 0 1))
  full = (
    narrow.s3 class,
    run3,
    λ new step. enter_or_expire narrow_plan (narrow.r3 class) 0 1 _ _ _ _ step.1.step.1 (narrow.expires4 class),
  )

  pub room : IsRefusedAfter narrow_site (take 1 (narrow_events class)) (SiteEvent.Inside 0 (Event.Expire 0 0))
  room = (
    narrow.s1 class,
    run1,
    λ new step. enter_or_expire narrow_plan (narrow.r1 class) 0 0 _ _ _ _ (narrow.enters2 class) step.1.step.1,
  )

  -- ---- grabs

  abbrev r10 : RelayState
  r10 = set_cell (narrow.r9 class) (hand 0 0) (narrow.node class 0 3 ∷ [])

  abbrev r11 : RelayState
  r11 = set_cell (set_cell r10 (hand 0 0) []) (Cell.Queue 0) (narrow.node class 0 3 ∷ [])

  takes10 : Takes narrow_plan (narrow.r9 class) 0 0 (narrow.node class 0 3) false r10
  takes10 = record {
    there =
        (omega arith, omega arith);
    made = record { input_is = refl; list = refl; due = first_due };
    free = refl;
    discarded = refl;
    after = refl;
  }

  enters11 : Enters narrow_plan r10 0 0 (narrow.node class 0 3) r11
  enters11 = record { leaves = record { there = (omega arith, omega arith); held = refl; not_held = refl }; room = omega arith; after = refl }

  abbrev s10 : SiteState
  s10 = narrow.with_new class (narrow.s9 class) r10 3

  abbrev s11 : SiteState
  s11 = narrow.on class s10 r11

  step10 : SiteStep narrow_site (narrow.s9 class) (SiteEvent.TakeNew edge_input 0 (example_message class)) s10
  step10 = record {
    node = narrow.node class 0 3;
    message = refl;
    tag = refl;
    step = record {
      state = r10;
      outs = [];
      step =
          (false, takes10, refl);
      after = refl;
    };
  }

  step11 : SiteStep narrow_site s10 (SiteEvent.Inside 0 (Event.Enter 0 0)) s11
  step11 = ((λ h. h), record { state = r11; outs = []; step = (narrow.node class 0 3, enters11, refl); after = refl })

  busy_run : Runs narrow_site (busy_events class) s11
  busy_run = steps_on narrow_site (opening narrow_site)
      (take 9 (narrow_events class) ++ SiteEvent.TakeNew edge_input 0 (example_message class) ∷ []) s10 (SiteEvent.Inside 0 (Event.Enter 0 0)) s11
      (further 9 (narrow.s9 class) (SiteEvent.TakeNew edge_input 0 (example_message class)) s10 run9 step10) step11

  pub busy : IsRefusedAfter narrow_site (busy_events class) (SiteEvent.Inside 0 (Event.Grab 0))
  busy = (s11, busy_run, λ new step. (let idle : narrow.node class 0 2 ∷ [] ≡ [] = step.1.step.1.idle in cc))

  pub empty : IsRefusedAfter narrow_site (take 1 (narrow_events class)) (SiteEvent.Inside 0 (Event.Grab 0))
  empty = (narrow.s1 class, run1, λ new step. (let some : 0 < 0 = step.1.step.1.some in omega (arith, some)))

  -- ---- jobs

  pub idle : IsRefusedAfter narrow_site (take 1 (narrow_events class)) (SiteEvent.Inside 0 (Event.Done 0))
  idle = (
    narrow.s1 class,
    run1,
    λ new step. (let job = step.1.step.2.job in let held : [] ≡ job.entry ∷ job.others = job.held in cc),
  )

  pub post : IsRefusedAfter narrow_site (take 5 (narrow_events class)) (SiteEvent.Inside 0 (Event.Done 0))
  post = (
    narrow.s5 class,
    run5,
    λ new step. post_is_no_run 1 step.1.step.0 (one_job narrow_plan (narrow.r5 class) 0 _ _ (narrow.job6 class) step.1.step.2.job),
  )

  pub early : IsRefusedAfter narrow_site (take 11 (narrow_events class)) (SiteEvent.Inside 0 (Event.GiveUp 1 false))
  early = (
    narrow.s11 class,
    run11,
    λ new step. fail_or_give_up narrow_plan (narrow.r11 class) 1 0 step.1.step.0 _ _ _ _ (narrow.fails12 class) step.1.step.2,
  )

  pub late : IsRefusedAfter narrow_site (take 12 (narrow_events class)) (SiteEvent.Inside 0 (Event.Fail 1 false))
  late = (
    narrow.s12 class,
    run12,
    λ new step. fail_or_give_up narrow_plan (narrow.r12 class) 1 step.1.step.0 0 _ _ _ _ step.1.step.2 (narrow.gives13 class),
  )

  pub lost : IsRefusedAfter narrow_site (take 5 (narrow_events class)) (SiteEvent.Inside 0 (Event.PostLost 0 false))
  lost = (
    narrow.s5 class,
    run5,
    λ new step. post_or_lose narrow_plan (narrow.r5 class) 0 1 step.1.step.0 _ _ _ _ (narrow.posts6 class) step.1.step.2,
  )

  -- ---- a post wants room, where nothing is discarded

  no_room : (lost : Bool) → false ≡ lost → (lost ≡ true) ⊎ HasRoom narrow_plan (narrow.r9 class) 1 → ⊥
  no_room lost none (inl is) = cc
  no_room lost none (inr room) = let below : 1 < 1 = room.not_full in omega (arith, below)

  no_post : (l : ℕ) (lost : Bool) (severity : ℕ) → 1 ≡ l
      → discards (marks_at narrow_plan (queue_for narrow_plan l)) severity (waiting (narrow.r9 class) (queue_for narrow_plan l)) ≡ lost
      → (lost ≡ true) ⊎ HasRoom narrow_plan (narrow.r9 class) l → ⊥
  no_post l lost severity same discarded room =
      no_room lost
      (subst (λ z. discards (marks_at narrow_plan (queue_for narrow_plan z)) severity (waiting (narrow.r9 class) (queue_for narrow_plan z)) ≡ lost)
      (sym same) discarded)
      (subst (λ z. (lost ≡ true) ⊎ HasRoom narrow_plan (narrow.r9 class) z) (sym same) room)

  pub filled : IsRefusedAfter narrow_site (take 9 (narrow_events class)) (SiteEvent.Inside 0 (Event.Post 0))
  filled = (
    narrow.s9 class,
    run9,
    λ new step.
        (let posts = step.1.step.3 in
        no_post step.1.step.0 step.1.step.2 step.1.step.1.message.class.severity
        (same_post 1 step.1.step.0 (one_job narrow_plan (narrow.r9 class) 0 _ _ (narrow.loses10 class).job posts.job)) posts.discarded posts.room),
  )
