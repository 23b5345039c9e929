-- Ten events lead the site with a circle of waits into a state in which no step is possible any more but a take from outside.
use Rattle.std.proofs.Common.{◌≡◌, ℕ, ◌+◌, ◌*◌, Bool, true, false, List, [], ◌∷◌, ◌++◌, refl, sym, subst, ap, arith, ◌∙◌, inl, inr, Some}
use Rattle.std.specs.Prelude.{◌⊎◌, ◌||◌, ◌&&◌, if◌then◌else◌, slice_get}
use Rattle.std.specs.Int.{bit_at}
use Rattle.std.specs.List.{Contains}
use Rattle.sy_wire.specs.declared.class.Class.{Class}
use Rattle.sy_rules.specs.declared.lists.occurrence.Occurrence.{Occurrence}
use Rattle.sy_rules.specs.declared.lists.occurrence.Occurrence.TheVariants as occurrence
use Rattle.sy_chain.specs.Entries.{Entry}
use Rattle.sy_select.specs.Selectors.{holds}
use Rattle.sy_rules.specs.lists.Body.{executed, is_in}
use Rattle.sy_rules.specs.lists.Sets.{Bits, IsLowest}
use Rattle.sy_rules.specs.Whole.{body_at, queue_for}
use Rattle.sy_board.specs.relay.Cells as cells
use Rattle.sy_board.specs.relay.Cells.{Cell, RelayState, at, set_cell, hand, waiting}
use Rattle.sy_marks.specs.declared.marks.Flow.TheVariants as flow
use Rattle.sy_marks.specs.Marks.{discards}
use Rattle.sy_board.specs.relay.Plans.{IsDue, marks_at, occurrences_at, post_flow}
use Rattle.sy_board.specs.relay.Steps.{Enters, Event, Grabs, Job, LosesPost, Out, Posts, Step, Takes, is_post_held}
use Rattle.sy_site.specs.Sites.{archives, is_protected}
use Rattle.sy_site.specs.machine.States.{Copy, SiteState, opening, with_relay}
use Rattle.sy_site.specs.machine.Steps.{IsTake, Runs, SiteEvent, SiteStep}
use Rattle.sy_site.specs.machine.Examples.{edge_input, example_message}
use Rattle.sy_flowing.specs.OwnSteps.{AreWritten, CanFinish, OwnSteps}
use Rattle.sy_flowing.specs.Jams.{IsAuth, IsOther, IsStuck, auth_selector, jam_archive, jam_events, jam_plan, jam_site, other_input}
use Rattle.sy_site.proofs.machine.DueSets.{first_due, only_first}
use Rattle.sy_flowing.proofs.examples.JamSound.{no_target}
use Rattle.sy_flowing.proofs.steps.Relays.{no_step}
use Rattle.sy_board.proofs.relay.Marks.{empty_everywhere}
use Rattle.sy_site.proofs.machine.Spread.{some_same}

module _ (class other : Class) (is_auth_class : IsAuth class) (is_other : IsOther other) where
  -- ---- what is due

  due_a : IsDue jam_plan 1 (example_message class) 1
  due_a = go (holds auth_selector class.facility class.severity) is_auth_class
    where
      go : (b : Bool) → b ≡ true → Bits (λ k. is_in k (executed (body_at jam_plan 1) (b ∷ [])) ≡ true) 1
      go true e = first_due
      go false e = absurd (cc)

  due_b : IsDue jam_plan 2 (example_message other) 1
  due_b = go (holds auth_selector other.facility other.severity) is_other
    where
      go : (b : Bool) → b ≡ false → Bits (λ k. is_in k (executed (body_at jam_plan 2) (b ∷ [])) ≡ true) 1
      go true e = absurd (cc)
      go false e = first_due

  -- ---- the relay

  abbrev a : ℕ → Entry
  a tag = record { message = example_message class; list = 1; input = 0; due = 1; tag = tag }

  abbrev b : ℕ → Entry
  b tag = record { message = example_message other; list = 2; input = 1; due = 1; tag = tag }

  abbrev q : ℕ → Cell
  q number = Cell.Queue number

  abbrev w : ℕ → Cell
  w number = Cell.Worker number

  abbrev r0 : RelayState
  r0 = cells.opening jam_plan

  abbrev r1 : RelayState
  r1 = set_cell r0 (hand 0 0) (a 0 ∷ [])

  abbrev r2 : RelayState
  r2 = set_cell (set_cell r1 (hand 0 0) []) (q 1) (a 0 ∷ [])

  abbrev r3 : RelayState
  r3 = set_cell (set_cell r2 (q 1) []) (w 1) (a 0 ∷ [])

  abbrev r4 : RelayState
  r4 = set_cell r3 (hand 0 0) (a 1 ∷ [])

  abbrev r5 : RelayState
  r5 = set_cell (set_cell r4 (hand 0 0) []) (q 1) (a 1 ∷ [])

  abbrev r6 : RelayState
  r6 = set_cell r5 (hand 1 0) (b 2 ∷ [])

  abbrev r7 : RelayState
  r7 = set_cell (set_cell r6 (hand 1 0) []) (q 2) (b 2 ∷ [])

  abbrev r8 : RelayState
  r8 = set_cell (set_cell r7 (q 2) []) (w 2) (b 2 ∷ [])

  abbrev r9 : RelayState
  r9 = set_cell r8 (hand 1 0) (b 3 ∷ [])

  abbrev r10 : RelayState
  r10 = set_cell (set_cell r9 (hand 1 0) []) (q 2) (b 3 ∷ [])

  takes1 : Takes jam_plan r0 0 0 (a 0) false r1
  takes1 = record { there = (omega arith, omega arith); made = record { input_is = refl; list = refl; due = due_a }; free = refl; discarded = refl; after = refl }

  enters2 : Enters jam_plan r1 0 0 (a 0) r2
  enters2 = record { leaves = record { there = (omega arith, omega arith); held = refl; not_held = refl }; room = omega arith; after = refl }

  grabs3 : Grabs jam_plan r2 1 [] r3
  grabs3 = record { there = omega arith; idle = refl; some = omega arith; lost_are = refl; after = refl }

  takes4 : Takes jam_plan r3 0 0 (a 1) false r4
  takes4 = record { there = (omega arith, omega arith); made = record { input_is = refl; list = refl; due = due_a }; free = refl; discarded = refl; after = refl }

  enters5 : Enters jam_plan r4 0 0 (a 1) r5
  enters5 = record { leaves = record { there = (omega arith, omega arith); held = refl; not_held = refl }; room = omega arith; after = refl }

  takes6 : Takes jam_plan r5 1 0 (b 2) false r6
  takes6 = record { there = (omega arith, omega arith); made = record { input_is = refl; list = refl; due = due_b }; free = refl; discarded = refl; after = refl }

  enters7 : Enters jam_plan r6 1 0 (b 2) r7
  enters7 = record { leaves = record { there = (omega arith, omega arith); held = refl; not_held = refl }; room = omega arith; after = refl }

  grabs8 : Grabs jam_plan r7 2 [] r8
  grabs8 = record { there = omega arith; idle = refl; some = omega arith; lost_are = refl; after = refl }

  takes9 : Takes jam_plan r8 1 0 (b 3) false r9
  takes9 = record { there = (omega arith, omega arith); made = record { input_is = refl; list = refl; due = due_b }; free = refl; discarded = refl; after = refl }

  enters10 : Enters jam_plan r9 1 0 (b 3) r10
  enters10 = record { leaves = record { there = (omega arith, omega arith); held = refl; not_held = refl }; room = omega arith; after = refl }

  -- ---- the site

  abbrev on : SiteState → RelayState → SiteState
  on s state = record s { relays = with_relay s.relays 0 state }

  abbrev copy_a : ℕ → Copy
  copy_a number = record { number = number; message = example_message class; origin = edge_input; trail = 0 ∷ []; flag = false }

  abbrev copy_b : ℕ → Copy
  copy_b number = record { number = number; message = example_message other; origin = other_input; trail = 0 ∷ []; flag = false }

  abbrev with_a : SiteState → RelayState → ℕ → SiteState
  with_a s state number = record s {
    relays = with_relay s.relays 0 state;
    copies = s.copies ++ copy_a number ∷ [];
    arrivals = s.arrivals ++ record { message = example_message class; origin = edge_input } ∷ [];
  }

  abbrev with_b : SiteState → RelayState → ℕ → SiteState
  with_b s state number = record s {
    relays = with_relay s.relays 0 state;
    copies = s.copies ++ copy_b number ∷ [];
    arrivals = s.arrivals ++ record { message = example_message other; origin = other_input } ∷ [];
  }

  abbrev s0 : SiteState
  s0 = opening jam_site

  abbrev s1 : SiteState
  s1 = with_a s0 r1 0

  abbrev s2 : SiteState
  s2 = on s1 r2

  abbrev s3 : SiteState
  s3 = on s2 r3

  abbrev s4 : SiteState
  s4 = with_a s3 r4 1

  abbrev s5 : SiteState
  s5 = on s4 r5

  abbrev s6 : SiteState
  s6 = with_b s5 r6 2

  abbrev s7 : SiteState
  s7 = on s6 r7

  abbrev s8 : SiteState
  s8 = on s7 r8

  abbrev s9 : SiteState
  s9 = with_b s8 r9 3

  abbrev pub s10 : SiteState
  s10 = on s9 r10

  step1 : SiteStep jam_site s0 (SiteEvent.TakeNew edge_input 0 (example_message class)) s1
  step1 = record { node = a 0; message = refl; tag = refl; step = record { state = r1; outs = []; step = (false, takes1, refl); after = refl } }

  step2 : SiteStep jam_site s1 (SiteEvent.Inside 0 (Event.Enter 0 0)) s2
  step2 = ((λ h. h), record { state = r2; outs = []; step = (a 0, enters2, refl); after = refl })

  step3 : SiteStep jam_site s2 (SiteEvent.Inside 0 (Event.Grab 1)) s3
  step3 = ((λ h. h), record { state = r3; outs = []; step = ([], grabs3, refl); after = refl })

  step4 : SiteStep jam_site s3 (SiteEvent.TakeNew edge_input 0 (example_message class)) s4
  step4 = record { node = a 1; message = refl; tag = refl; step = record { state = r4; outs = []; step = (false, takes4, refl); after = refl } }

  step5 : SiteStep jam_site s4 (SiteEvent.Inside 0 (Event.Enter 0 0)) s5
  step5 = ((λ h. h), record { state = r5; outs = []; step = (a 1, enters5, refl); after = refl })

  step6 : SiteStep jam_site s5 (SiteEvent.TakeNew other_input 0 (example_message other)) s6
  step6 = record { node = b 2; message = refl; tag = refl; step = record { state = r6; outs = []; step = (false, takes6, refl); after = refl } }

  step7 : SiteStep jam_site s6 (SiteEvent.Inside 0 (Event.Enter 1 0)) s7
  step7 = ((λ h. h), record { state = r7; outs = []; step = (b 2, enters7, refl); after = refl })

  step8 : SiteStep jam_site s7 (SiteEvent.Inside 0 (Event.Grab 2)) s8
  step8 = ((λ h. h), record { state = r8; outs = []; step = ([], grabs8, refl); after = refl })

  step9 : SiteStep jam_site s8 (SiteEvent.TakeNew other_input 0 (example_message other)) s9
  step9 = record { node = b 3; message = refl; tag = refl; step = record { state = r9; outs = []; step = (false, takes9, refl); after = refl } }

  step10 : SiteStep jam_site s9 (SiteEvent.Inside 0 (Event.Enter 1 0)) s10
  step10 = ((λ h. h), record { state = r10; outs = []; step = (b 3, enters10, refl); after = refl })

  pub jam_run : Runs jam_site (jam_events class other) s10
  jam_run = (s1, step1, (s2, step2, (s3, step3, (s4, step4, (s5, step5, (s6, step6, (s7, step7, (s8, step8, (s9, step9, (s10, step10, refl))))))))))

  -- ---- it is stuck

  -- hands are empty
  no_hands : (k : ℕ) → at r10 (Cell.Hand k) ≡ []
  no_hands k = empty_everywhere jam_plan (Cell.Hand k)

  same_head : (x y : Entry) (xs ys : List Entry) → x ∷ xs ≡ y ∷ ys → x ≡ y
  same_head x y xs ys e = cc

  -- an entry of which the first occurrence alone is due
  first_job : (x entry : Entry) (number left : ℕ) (o : Occurrence) → x.due ≡ 1 → x ≡ entry → IsLowest entry.due number left
      → slice_get (occurrences_at jam_plan entry.list) number ≡ Some o → slice_get (occurrences_at jam_plan x.list) 0 ≡ Some o
  first_job x entry number left o one same first found =
      let due : entry.due ≡ 1 = ap (λ (e : Entry). e.due) (sym same) ∙ one in
      let zero : number ≡ 0 = only_first number (ap (λ d. bit_at d number) (sym due) ∙ first.member) in
      subst (λ n. slice_get (occurrences_at jam_plan x.list) n ≡ Some o) zero
      (subst (λ (e : Entry). slice_get (occurrences_at jam_plan e.list) number ≡ Some o) (sym same) found)

  -- the workers' jobs
  job_is : (v : ℕ) (o : Occurrence) → Job jam_plan r10 v o → (o ≡ occurrence.Post 2) ⊎ (o ≡ occurrence.Post 1)
  job_is ℕ.zero o job = let e : [] ≡ job.entry ∷ job.others = job.held in absurd (cc)
  job_is (ℕ.suc ℕ.zero) o job =
      inl (sym (some_same (first_job (a 0) job.entry job.number job.left o refl (same_head (a 0) job.entry [] job.others job.held) job.first job.found)))
  job_is (ℕ.suc (ℕ.suc ℕ.zero)) o job =
      inr (sym (some_same (first_job (b 2) job.entry job.number job.left o refl (same_head (b 2) job.entry [] job.others job.held) job.first job.found)))
  job_is (ℕ.suc (ℕ.suc (ℕ.suc v))) o job = let l = job.there in absurd (omega (arith, l))

  no_run : (v x : ℕ) → Job jam_plan r10 v (occurrence.Run x) → ⊥
  no_run v x job = elim (job_is v (occurrence.Run x) job) [ inl e ↦ absurd (cc) | inr e ↦ absurd (cc) ]

  post_same : (x y : ℕ) → occurrence.Post x ≡ occurrence.Post y → x ≡ y
  post_same x y e = cc

  post_to : (v l : ℕ) → Job jam_plan r10 v (occurrence.Post l) → (l ≡ 2) ⊎ (l ≡ 1)
  post_to v l job = elim (job_is v (occurrence.Post l) job) [ inl e ↦ inl (post_same l 2 e) | inr e ↦ inr (post_same l 1 e) ]

  -- each post is held at the mark
  held_there : (l : ℕ) → (l ≡ 2) ⊎ (l ≡ 1) → is_post_held jam_plan r10 l ≡ true
  held_there l (inl e) = subst (λ z. is_post_held jam_plan r10 z ≡ true) (sym e) refl
  held_there l (inr e) = subst (λ z. is_post_held jam_plan r10 z ≡ true) (sym e) refl

  kept_there : (l severity : ℕ) → (l ≡ 2) ⊎ (l ≡ 1) → discards (marks_at jam_plan (queue_for jam_plan l)) severity (waiting r10 (queue_for jam_plan l)) ≡ false
  kept_there l severity (inl e) = subst (λ z. discards (marks_at jam_plan (queue_for jam_plan z)) severity (waiting r10 (queue_for jam_plan z)) ≡ false) (sym e) refl
  kept_there l severity (inr e) = subst (λ z. discards (marks_at jam_plan (queue_for jam_plan z)) severity (waiting r10 (queue_for jam_plan z)) ≡ false) (sym e) refl

  waits_there : (l : ℕ) → (l ≡ 2) ⊎ (l ≡ 1) → post_flow jam_plan (queue_for jam_plan l) ≡ flow.Full
  waits_there l (inl e) = subst (λ z. post_flow jam_plan (queue_for jam_plan z) ≡ flow.Full) (sym e) refl
  waits_there l (inr e) = subst (λ z. post_flow jam_plan (queue_for jam_plan z) ≡ flow.Full) (sym e) refl

  apart : (t : Bool) → t ≡ true → t ≡ false → ⊥
  apart true e f = absurd (cc)
  apart false e f = absurd (cc)

  no_post : (v l : ℕ) (node : Entry) (lost : Bool) (new : RelayState) → Posts jam_plan r10 v l node lost new → ⊥
  no_post v l node lost new does =
      let to = post_to v l does.job in
      let kept : lost ≡ false = sym does.discarded ∙ kept_there l node.message.class.severity to in
      elim does.room [
        | inl e ↦ apart lost e kept
        | inr room ↦ apart (is_post_held jam_plan r10 l) (held_there l to) room.not_held
      ]

  no_lost_post : (v l : ℕ) (no_memory : Bool) (e : Entry) (new : RelayState) → LosesPost jam_plan r10 v l no_memory e new → ⊥
  no_lost_post v l true e new loses = loses.cause (waits_there l (post_to v l loses.job))
  no_lost_post v l false e new loses = apart (is_post_held jam_plan r10 l) (held_there l (post_to v l loses.job)) loses.cause.not_held

  no_entry : (k : ℕ) (e : Entry) → at r10 (Cell.Hand k) ≡ e ∷ [] → ⊥
  no_entry k e is = let f : [] ≡ e ∷ [] = sym (no_hands k) ∙ is in absurd (cc)

  no_grab : (v : ℕ) (lost : List Entry) (new : RelayState) → Grabs jam_plan r10 v lost new → ⊥
  no_grab ℕ.zero lost new grabs = let s = grabs.some in omega (arith, s)
  no_grab (ℕ.suc ℕ.zero) lost new grabs = let e : a 0 ∷ [] ≡ [] = grabs.idle in absurd (cc)
  no_grab (ℕ.suc (ℕ.suc ℕ.zero)) lost new grabs = let e : b 2 ∷ [] ≡ [] = grabs.idle in absurd (cc)
  no_grab (ℕ.suc (ℕ.suc (ℕ.suc v))) lost new grabs = let l = grabs.there in omega (arith, l)

  no_inside : (event : Event) (new : RelayState) (outs : List Out) → (IsTake event → ⊥) → Step jam_plan r10 event new outs → ⊥
  no_inside (Event.Take i h node) new outs other st = other tt
  no_inside (Event.Enter i h) new outs other (node, enters, is) = no_entry (64 * i + h) node enters.leaves.held
  no_inside (Event.Expire i h) new outs other (node, expires, is) = no_entry (64 * i + h) node expires.leaves.held
  no_inside (Event.Grab v) new outs other (lost, grabs, is) = no_grab v lost new grabs
  no_inside (Event.Done v) new outs other (x, e, does, is) = no_run v x does.job
  no_inside (Event.Fail v took) new outs other (x, e, fails, is) = no_run v x fails.job
  no_inside (Event.GiveUp v took) new outs other (x, e, gives, is) = no_run v x gives.job
  no_inside (Event.Post v) new outs other (l, node, lost, does, is) = no_post v l node lost new does
  no_inside (Event.PostLost v no_memory) new outs other (l, e, loses, is) = no_lost_post v l no_memory e new loses

  pub stuck : IsStuck jam_site s10
  stuck (SiteEvent.TakeNew input h message) new st = tt
  stuck (SiteEvent.TakeFrom input h link place) new st = no_target link input st.leads
  stuck (SiteEvent.Inside ℕ.zero event) new st = no_inside event st.1.state st.1.outs st.0 st.1.step
  stuck (SiteEvent.Inside (ℕ.suc r) event) new st = no_step (s10.relays (ℕ.suc r)) event st.1.state st.1.outs st.1.step

  -- ---- so the message isn't written by any own steps

  protected : is_protected jam_site class ≡ true
  protected = go (holds auth_selector class.facility class.severity) is_auth_class
    where
      go : (t : Bool) → t ≡ true → (t || false) ≡ true
      go true e = refl
      go false e = absurd (cc)

  named : Contains (archives jam_site class) jam_archive
  named = go (holds auth_selector class.facility class.severity) is_auth_class
    where
      go : (t : Bool) → t ≡ true → Contains (if t && true then jam_archive ∷ [] else []) jam_archive
      go true e = (0, omega arith, refl)
      go false e = absurd (cc)

  not_written : (end : SiteState) → end ≡ s10 → AreWritten jam_site end → ⊥
  not_written end is written =
      let w0 : AreWritten jam_site s10 = subst (AreWritten jam_site) is written in
      let one = w0 0 (record { message = example_message class; origin = edge_input }) refl protected (0, omega arith, refl) jam_archive named in
      let l = one.there.1 in omega (arith, l)

  pub cant_finish : (bound : ℕ) → CanFinish jam_site bound s10 → ⊥
  cant_finish bound can = go can.events can.steps
    where
      go : (events : List SiteEvent) → OwnSteps jam_site bound s10 events can.end → ⊥
      go [] is = not_written can.end is can.written
      go (SiteEvent.TakeNew input h message ∷ events) (between, step, more) = step.own
      go (SiteEvent.TakeFrom input h link place ∷ events) (between, step, more) = stuck (SiteEvent.TakeFrom input h link place) between step.step
      go (SiteEvent.Inside r event ∷ events) (between, step, more) = stuck (SiteEvent.Inside r event) between step.step

  pub jammed : (state : SiteState) × Runs jam_site (jam_events class other) state × IsStuck jam_site state
      × ((bound : ℕ) → CanFinish jam_site bound state → ⊥)
  jammed = (s10, jam_run, stuck, cant_finish)
