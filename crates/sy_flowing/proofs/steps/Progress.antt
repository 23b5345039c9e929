-- Wherever something is held in a site that flows, some own step is possible, and makes the site lighter.
use Rattle.std.proofs.Common.{◌≡◌, ℕ, ◌+◌, ◌<◌, ◌≤◌, Bool, true, false, if◌then◌else◌, List, [], ◌∷◌, ◌++◌, drop, length, map, nat_lt, refl, sym, subst, ap, arith, ◌∙◌, Option, Some, None, inl, inr}
use Rattle.std.specs.Prelude.{◌⊎◌, slice_get}
use Rattle.std.proofs.lemmas.Bool.Decides.{nat_tests}
use Rattle.std.proofs.lemmas.Option.{slice_get_cases}
use Rattle.sy_wire.specs.Messages.{Said}
use Rattle.sy_chain.specs.Entries.{Entry}
use Rattle.sy_marks.specs.Marks.{discards, kept_of, lost_of}
use Rattle.sy_rules.specs.declared.lists.occurrence.Occurrence.{Occurrence}
use Rattle.sy_rules.specs.declared.lists.occurrence.Occurrence.TheVariants as occurrence
use Rattle.sy_rules.specs.lists.Work.{valuation_of}
use Rattle.sy_rules.specs.Whole.{body_at, queue_for}
use Rattle.sy_rules.proofs.lemmas.lists.WorkLaws.{of_the_list}
use Rattle.sy_board.specs.relay.Cells.{Cell, RelayState, at, set_cell, waiting}
use Rattle.sy_board.specs.relay.Spares.{Scope}
use Rattle.sy_site.specs.machine.Reach.{MayDo}
use Rattle.sy_board.specs.relay.Plans.{marks_at, occurrences_at, parameters_at, post_flow, queue_of_worker}
use Rattle.sy_board.specs.relay.Steps.{Cause, Event, Grabs, HasRoom, IsFull, IsPosted, Job, LosesPost, Out, Posts, advanced, if_so, is_post_held}
use Rattle.sy_flowing.proofs.relay.DueNumbers.{HasLowest, lowest_in}
use Rattle.sy_flowing.proofs.relay.Weights.{advanced_falls, cost_some, grab_falls, lower_costs_less, most, post_falls}
use Rattle.sy_site.specs.declared.site.SiteAction.{SiteAction}
use Rattle.sy_site.specs.declared.site.SiteInput.{SiteInput}
use Rattle.sy_site.specs.Sites.{Site, plan_at, target}
use Rattle.sy_site.specs.machine.States.{SiteState, with_relay}
use Rattle.sy_flowing.specs.Flowing.{IsFlowing, MayFollow, by_forward, by_post, forwards, input_list, input_queue, list_queue, posts}
use Rattle.sy_site.specs.machine.Lawful.{IsLawful}
use Rattle.sy_board.proofs.relay.Keeps.{Each}
use Rattle.sy_flowing.proofs.steps.Measure.{IsThere, lost_passed, on_link, rank, small, tag_of}
use Rattle.sy_flowing.proofs.steps.Places.{Owing, Placed, owes_may}
use Rattle.sy_flowing.proofs.steps.PlanFacts.{HasDue, HasWorker, delayed_says, due_for, input_found, no_value, parameters_in_range, worker_for}
use Rattle.sy_flowing.proofs.steps.Moves as moves
use Rattle.sy_flowing.proofs.steps.Moves.{if_so_passed, in_cell, within_of}

module _ (site : Site) (law : IsLawful site) (flow : IsFlowing site) (bound : ℕ) (some : 1 ≤ bound) where
  abbrev Goes : SiteState → Type 0
  Goes = moves.Goes site law flow bound some

  abbrev Sane : SiteState → Type 0
  Sane = moves.Sane site law flow bound some

  abbrev Below : ℕ → SiteState → Type 0
  Below = moves.Below site law flow bound some

  abbrev high : ℕ → ℕ → ℕ
  high = moves.high site law flow bound some

  -- a worker's job is dealt with, or what it waits for isn't empty
  pub worker_goes : (n : ℕ) (s : SiteState) → Sane s → Below n s → (r w : ℕ) (e : Entry) (es : List Entry) → at (s.relays r) (Cell.Worker w) ≡ e ∷ es
      → high r (queue_of_worker (plan_at site r) w) < ℕ.suc n → Goes s
  worker_goes n s sane below r w e es is l =
      let plan = plan_at site r in
      let p = sane.placed r (Cell.Worker w) e (in_cell _ e es is) in
      let there = moves.there_by_input site law flow bound some r e.input p.there in
      let place : queue_for plan e.list ≡ queue_of_worker plan w = p.place (moves.queues_are_lists site law flow bound some r there.whole) in
      let owes : Owing e × Each Owing es = subst (Each Owing) is (sane.tidy r (Cell.Worker w)) in
      let low = lowest_in e.due e.due (omega arith) owes.0 in
      let member = low.first.member in
      let within = of_the_list (body_at plan e.list) (valuation_of (body_at plan e.list) e.message) low.number (p.due low.number member) in
      let wide : w < length plan.workers = (let a = within_of (s.relays r).workers w e es is in let b = (sane.shaped r).workers in omega (arith, a, b)) in
      elim (slice_get_cases (occurrences_at plan e.list) low.number).1 [
        | inl h ↦ go p there (subst (λ q. high r q < ℕ.suc n) (sym place) l) low wide h.0 h.2
        | inr h ↦ (let past = h.0 in absurd (omega (arith, past, within)))
      ]
    where
      go : Placed site r (Cell.Worker w) e → IsThere site r → high r (queue_for (plan_at site r) e.list) < ℕ.suc n → (low : HasLowest e.due)
          → w < length (plan_at site r).workers → (o : Occurrence) → slice_get (occurrences_at (plan_at site r) e.list) low.number ≡ Some o → Goes s
      go p there bounded low wide (occurrence.Run a) found = run (target site link) refl (s.passed link) refl
        where
          link : SiteAction
          link = record { relay = r; action = a }

          job : Job (plan_at site r) (s.relays r) w (occurrence.Run a)
          job = record {
            there = wide;
            entry = e;
            others = es;
            held = is;
            number = low.number;
            left = low.left;
            first = low.first;
            found = found;
          }

          followed : MayFollow site e.message.class r e.list
          followed = (e.input, input_found site r e.input p.there, p.follows)

          does : MayDo site e.message.class Scope.Every r e.list low.number (occurrence.Run a)
          does = owes_may site r (Cell.Worker w) e (occurrence.Run a) p (record { number = low.number; member = low.first.member; is = found })

          run : (found_to : Option SiteInput) → target site link ≡ found_to → (on : List ℕ) → s.passed link ≡ on → Goes s
          run None none on is_on = moves.done_goes site law flow bound some s r w a there sane.shaped job
              (λ to leads. absurd (no_value (sym none ∙ leads)))
              (let z : on_link site law flow s.copies link e.tag ≡ 0 = ap (λ o. tag_of site law flow o (slice_get s.copies e.tag)) none in
              let c = cost_some (rank site law flow r e.message.class e.list) in omega (arith, z, c))
          run (Some to) leads on is_on = full (nat_lt (length on) bound) refl
            where
              falls : flow.height (input_queue site to) < high r (queue_for (plan_at site r) e.list)
              falls = flow.falls (list_queue site r e.list) (input_queue site to) (forwards e.message.class r e.list low.number a to followed does leads)

              full : (b : Bool) → nat_lt (length on) bound ≡ b → Goes s
              full true room = moves.done_goes site law flow bound some s r w a there sane.shaped job
                  (λ other other_leads. subst (λ (xs : List ℕ). length xs < bound) (sym is_on) (grind (arith, nat_tests)))
                  (let named = sane.tags.held r (Cell.Worker w) e (in_cell _ e es is) in
                  let z : on_link site law flow s.copies link e.tag ≡ 4 + most (flow.left e.message.class (input_list site to))
                  = ap (λ o. tag_of site law flow o (slice_get s.copies e.tag)) leads ∙ ap (tag_of site law flow (Some to)) named.1
                  ∙ ap (λ (m : Said). 4 + most (flow.left m.class (input_list site to))) (sym named.2) in
                  let ends = flow.ends e.message.class (record { relay = r; list = e.list }) (input_list site to)
                  (by_forward r e.list low.number a to followed does leads) in
                  let c = lower_costs_less (flow.left e.message.class (input_list site to)) (rank site law flow r e.message.class e.list) ends in
                  omega (arith, z, c))
              full false none = longer on is_on (grind (arith, nat_tests))
                where
                  longer : (on : List ℕ) → s.passed link ≡ on → bound ≤ length on → Goes s
                  longer [] is_on m = absurd (omega (arith, m, some))
                  longer (tag ∷ tags) is_on m = moves.link_goes site law flow bound some n s sane below link to leads tag tags is_on (omega (arith, falls, bounded))
      go p there bounded low wide (occurrence.Post to) found =
          put_or (discards (marks_at (plan_at site r) q) e.message.class.severity (waiting (s.relays r) q)) refl
          (is_post_held (plan_at site r) (s.relays r) to) refl (nat_lt (waiting (s.relays r) q) (parameters_at (plan_at site r) q).size) refl
        where
          q : ℕ
          q = queue_for (plan_at site r) to

          followed : MayFollow site e.message.class r e.list
          followed = (e.input, input_found site r e.input p.there, p.follows)

          may : MayDo site e.message.class Scope.Every r e.list low.number (occurrence.Post to)
          may = owes_may site r (Cell.Worker w) e (occurrence.Post to) p (record { number = low.number; member = low.first.member; is = found })

          ends : rank site law flow r e.message.class to < rank site law flow r e.message.class e.list
          ends = flow.ends e.message.class (record { relay = r; list = e.list }) (record { relay = r; list = to })
              (by_post r e.list low.number to followed may)

          job : Job (plan_at site r) (s.relays r) w (occurrence.Post to)
          job = record {
            there = wide;
            entry = e;
            others = es;
            held = is;
            number = low.number;
            left = low.left;
            first = low.first;
            found = found;
          }

          d : HasDue (plan_at site r) to e.message
          d = due_for (plan_at site r) to e.message

          node : Entry
          node = record { message = e.message; list = to; input = e.input; due = d.due; tag = e.tag }

          made : IsPosted (plan_at site r) e to node
          made = record { message = refl; list_is = refl; input = refl; tag = refl; due = d.is }

          post : (lost : Bool) → discards (marks_at (plan_at site r) q) e.message.class.severity (waiting (s.relays r) q) ≡ lost
              → (lost ≡ true) ⊎ HasRoom (plan_at site r) (s.relays r) to → Goes s
          post lost is_lost room =
              let plan = plan_at site r in
              let moved = advanced plan (s.relays r) w (occurrence.Post to) job in
              let state : RelayState = if lost then moved else set_cell moved (Cell.Queue q) (at (s.relays r) (Cell.Queue q) ++ node ∷ []) in
              let does : Posts plan (s.relays r) w to node lost state = record { job = job; made = made; discarded = is_lost; room = room; after = refl } in
              moves.inside_goes site law flow bound some s r (Event.Post w) state (if_so lost (Out.Lost (Cause.Post to) e)) tt (to, node, lost, does, refl)
              (if_so_passed (record s { relays = with_relay s.relays r state }) r lost (Cause.Post to) e) there.within
              (post_falls plan (small site law flow r) (rank site law flow r) (s.relays r) w to node lost state there.whole (sane.shaped r) does ends)

          -- the queue is full, and doesn't hold it
          lose : IsFull (plan_at site r) (s.relays r) to → Goes s
          lose full =
              let plan = plan_at site r in
              let state = advanced plan (s.relays r) w (occurrence.Post to) job in
              let loses : LosesPost plan (s.relays r) w to false e state = record { job = job; its = refl; cause = full; after = refl } in
              let f = advanced_falls plan (small site law flow r) (rank site law flow r) (s.relays r) w (occurrence.Post to) (sane.shaped r) job in
              let c = cost_some (rank site law flow r e.message.class e.list) in
              moves.inside_goes site law flow bound some s r (Event.PostLost w false) state (Out.Lost (Cause.PostLost to) e ∷ []) refl (to, e, loses, refl) refl there.within
              (omega (arith, f, c))

          -- its mark holds it
          wait : is_post_held (plan_at site r) (s.relays r) to ≡ true → Goes s
          wait held =
              let says = delayed_says (post_flow (plan_at site r) q) (marks_at (plan_at site r) q) (waiting (s.relays r) q) held in
              let least = says.1.0 in
              let reached = says.1.1 in
              let falls : high r q < high r (queue_for (plan_at site r) e.list)
              = flow.falls (list_queue site r e.list) (list_queue site r to)
              (posts e.message.class r e.list low.number to followed may (record { waits = says.0; mark = says.1.0 })) in
              below r q (omega (arith, least, reached)) (omega (arith, falls, bounded))

          put_or : (lost : Bool) → discards (marks_at (plan_at site r) q) e.message.class.severity (waiting (s.relays r) q) ≡ lost
              → (held : Bool) → is_post_held (plan_at site r) (s.relays r) to ≡ held
              → (room : Bool) → nat_lt (waiting (s.relays r) q) (parameters_at (plan_at site r) q).size ≡ room → Goes s
          put_or true is_lost held is_held room is_room = post true is_lost (inl refl)
          put_or false is_lost true is_held room is_room = wait is_held
          put_or false is_lost false is_held true is_room = post false is_lost (inr (record { not_full = grind (arith, nat_tests); not_held = is_held }))
          put_or false is_lost false is_held false is_room = lose (record { full = grind (arith, nat_tests); not_held = is_held })

  -- what waits in a queue is grabbed, or its worker isn't idle
  pub queue_goes : (n : ℕ) (s : SiteState) → Sane s → Below n s
  queue_goes ℕ.zero s sane r q some l = absurd (omega (arith, l))
  queue_goes (ℕ.suc n) s sane r q waits l = front (at (s.relays r) (Cell.Queue q)) refl (queue_goes n s sane)
    where
      front : (es : List Entry) → at (s.relays r) (Cell.Queue q) ≡ es → Below n s → Goes s
      front [] none below = let z = ap (λ (xs : List Entry). length xs) none in absurd (omega (arith, z, waits))
      front (e ∷ es) is below =
          let p = sane.placed r (Cell.Queue q) e (in_cell _ e es is) in
          let there = moves.there_by_input site law flow bound some r e.input p.there in
          let q_there = within_of (s.relays r).queues q e es is in
          let sizes = (sane.shaped r).queues in
          let has = worker_for (plan_at site r) there.whole q (omega (arith, q_there, sizes)) in
          idle there has (at (s.relays r) (Cell.Worker has.worker)) refl below
        where
          idle : IsThere site r → (has : HasWorker (plan_at site r).workers q) → (xs : List Entry) → at (s.relays r) (Cell.Worker has.worker) ≡ xs → Below n s → Goes s
          idle there has (x ∷ xs) busy below =
              worker_goes n s sane below r has.worker x xs busy (subst (λ z. high r z < ℕ.suc n) (sym has.takes) l)
          idle there has [] free below =
              let plan = plan_at site r in
              let w = has.worker in
              let k = queue_of_worker plan w in
              let es = at (s.relays r) (Cell.Queue k) in
              let batch = (parameters_at plan k).batch in
              let lost = lost_of (marks_at plan k) batch es in
              let state : RelayState = set_cell (set_cell (s.relays r) (Cell.Queue k) (drop batch es)) (Cell.Worker w) (kept_of (marks_at plan k) batch es) in
              let grabs : Grabs plan (s.relays r) w lost state = record {
                there = has.there;
                idle = free;
                some = subst (λ z. 0 < waiting (s.relays r) z) (sym has.takes) waits;
                lost_are = refl;
                after = refl;
              } in
              let range = parameters_in_range plan k there.whole (there.whole.worker_queues w _ has.there) in
              let one = range.batch_least in
              moves.inside_goes site law flow bound some s r (Event.Grab w) state (map (Out.Lost Cause.Grab) lost) tt (lost, grabs, refl)
              (lost_passed (record s { relays = with_relay s.relays r state }) r Cause.Grab lost) there.within
              (grab_falls plan (small site law flow r) (rank site law flow r) (s.relays r) w lost state there.whole (sane.shaped r) (omega (arith, one)) grabs)
