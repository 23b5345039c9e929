-- Whatever own steps follow, each makes a site that flows lighter: so there are few, and where none is possible the site is empty.
use Rattle.std.proofs.Common.{◌≡◌, ℕ, ◌+◌, ◌<◌, ◌≤◌, List, [], ◌∷◌, ◌++◌, length, refl, sym, subst, ap, arith, ◌∙◌, Option, Some, None}
use Rattle.std.specs.Prelude.{slice_get}
use Rattle.sy_wire.specs.Messages.{Said}
use Rattle.sy_chain.specs.Entries.{Entry}
use Rattle.sy_rules.specs.declared.lists.occurrence.Occurrence.{Occurrence}
use Rattle.sy_rules.specs.declared.lists.occurrence.Occurrence.TheVariants as occurrence
use Rattle.sy_board.specs.relay.Cells.{Cell, RelayState}
use Rattle.sy_board.specs.relay.Plans.{input_at, queue_of_worker}
use Rattle.sy_board.specs.relay.Spares.{MayDo, Scope}
use Rattle.sy_board.specs.relay.Steps.{Cause, Event, Job, Out, Step, advanced, if_so}
use Rattle.sy_flowing.proofs.relay.Weights.{advanced_falls, cost, cost_some, enter_falls, grab_falls, lower_costs_less, most, post_falls, take_rises, total_append}
use Rattle.sy_site.specs.declared.site.SiteAction.{SiteAction}
use Rattle.sy_site.specs.declared.site.SiteInput.{SiteInput}
use Rattle.sy_site.specs.Sites.{Site, plan_at, spares_at, target}
use Rattle.sy_site.specs.machine.States.{SiteState, off_link, opening, push_outs, taken_by, with_passed, with_relay}
use Rattle.sy_site.specs.machine.Steps.{Runs, SiteEvent, TakesFrom}
use Rattle.sy_flowing.specs.Flowing.{IsFlowing, MayFollow, by_forward, by_post, input_list}
use Rattle.sy_flowing.specs.OwnSteps.{AreWritten, IsOwnEvent, IsAtRest, HoldsNothing, OwnStep, OwnSteps}
use Rattle.sy_site.specs.machine.Lawful.{IsLawful}
use Rattle.sy_site.specs.machine.Soundness.{IsSound}
use Rattle.sy_flowing.proofs.steps.Finish.{something_goes, weightless, written_when_empty}
use Rattle.sy_site.proofs.machine.Marks.{push_outs_relays}
use Rattle.sy_flowing.proofs.steps.Measure.{IsThere, is_there, link_weight, lost_passed, measure, of_copies, of_link, of_relay, on_link, rank, small, tag_of, target_there, weigh}
use Rattle.sy_flowing.proofs.steps.Relays.{push_outs_copies}
use Rattle.sy_flowing.proofs.steps.Places.{Placed, owes_may}
use Rattle.sy_flowing.proofs.steps.PlanFacts.{input_found, leads_at, parameters_in_range}
use Rattle.sy_flowing.proofs.steps.Moves.{Sane, if_so_passed, in_cell, sane_run, weighs}
use Rattle.sy_site.proofs.machine.SafeRun.{safe_run, steps_on}
use Rattle.sy_site.proofs.machine.Spread.{get_more}

module _ (site : Site) (law : IsLawful site) (flow : IsFlowing site) (bound : ℕ) (some : 1 ≤ bound) where
  abbrev w : SiteState → ℕ
  w s = weighs site law flow bound some s

  abbrev m : SiteState → (ℕ → RelayState) → (SiteAction → List ℕ) → ℕ
  m s relays passed = measure site law flow s.copies relays passed

  -- what a state weighs, by its parts
  by_parts : (new : SiteState) (s : SiteState) (relays : ℕ → RelayState) (passed : SiteAction → List ℕ) (n : ℕ) → new.copies ≡ s.copies → new.relays ≡ relays
      → new.passed ≡ passed → m s relays passed < n → w new < n
  by_parts new s relays passed n c r p l =
      subst (λ z. measure site law flow z new.relays new.passed < n) (sym c)
      (subst (λ z. m s z new.passed < n) (sym r) (subst (λ z. m s relays z < n) (sym p) l))

  -- a relay's own step by which nothing passes
  inside_less : (s : SiteState) (r : ℕ) (state : RelayState) (outs : List Out) (new : SiteState)
      → new ≡ push_outs (record s { relays = with_relay s.relays r state }) r outs
      → (push_outs (record s { relays = with_relay s.relays r state }) r outs).passed ≡ s.passed → r < length site.relays
      → weigh site law flow r state < weigh site law flow r (s.relays r) → w new < w s
  inside_less s r state outs new after same l falls =
      let mid : SiteState = record s { relays = with_relay s.relays r state } in
      let a = of_relay site law flow s.copies s.relays s.passed r state l in
      subst (λ z. w z < w s) (sym after)
      (by_parts (push_outs mid r outs) s (with_relay s.relays r state) s.passed (w s) (push_outs_copies mid r outs) (push_outs_relays mid r outs) same
      (omega (arith, a, falls)))

  there_by_worker : (r v : ℕ) → v < length (plan_at site r).workers → IsThere site r
  there_by_worker r v l = is_there site law r (λ plan. length plan.workers) refl (omega (arith, l))

  -- a job's entry is placed, and its occurrence may be done
  module _ (s : SiteState) (sane : Sane site law flow bound some s) (r v : ℕ) (o : Occurrence) (job : Job (plan_at site r) (s.relays r) v o) where
    there : IsThere site r
    there = there_by_worker r v job.there

    placed : Placed site r (Cell.Worker v) job.entry
    placed = sane.placed r (Cell.Worker v) job.entry (in_cell _ job.entry job.others job.held)

    followed : MayFollow site job.entry.message.class r job.entry.list
    followed = (job.entry.input, input_found site r job.entry.input placed.there, placed.follows)

    does : MayDo (plan_at site r) (spares_at site r) job.entry.message.class Scope.Every job.entry.list job.number o
    does = owes_may site r (Cell.Worker v) job.entry o placed (record { number = job.number; member = job.first.member; is = job.found })

    falls : weigh site law flow r (advanced (plan_at site r) (s.relays r) v o job) + cost (rank site law flow r job.entry.message.class job.entry.list)
        ≤ weigh site law flow r (s.relays r)
    falls = advanced_falls (plan_at site r) (small site law flow r) (rank site law flow r) (s.relays r) v o (sane.shaped r) job

  -- what the link of a run takes
  cheap : (s : SiteState) (sane : Sane site law flow bound some s) (r v a : ℕ) (job : Job (plan_at site r) (s.relays r) v (occurrence.Run a))
      → on_link site law flow s.copies (record { relay = r; action = a }) job.entry.tag < cost (rank site law flow r job.entry.message.class job.entry.list)
  cheap s sane r v a job = go (target site link) refl
    where
      link : SiteAction
      link = record { relay = r; action = a }

      e : Entry
      e = job.entry

      go : (to : Option SiteInput) → target site link ≡ to → on_link site law flow s.copies link e.tag < cost (rank site law flow r e.message.class e.list)
      go None none =
          let z : on_link site law flow s.copies link e.tag ≡ 0 = ap (λ o. tag_of site law flow o (slice_get s.copies e.tag)) none in
          let c = cost_some (rank site law flow r e.message.class e.list) in
          omega (arith, z, c)
      go (Some to) leads =
          let named = sane.tags.held r (Cell.Worker v) e (in_cell _ e job.others job.held) in
          let z : on_link site law flow s.copies link e.tag ≡ 4 + most (flow.left e.message.class (input_list site to))
          = ap (λ o. tag_of site law flow o (slice_get s.copies e.tag)) leads ∙ ap (tag_of site law flow (Some to)) named.1
          ∙ ap (λ (x : Said). 4 + most (flow.left x.class (input_list site to))) (sym named.2) in
          let ends = flow.ends e.message.class (record { relay = r; list = e.list }) (input_list site to)
          (by_forward r e.list job.number a to (followed s sane r v (occurrence.Run a) job) (does s sane r v (occurrence.Run a) job) leads) in
          let c = lower_costs_less (flow.left e.message.class (input_list site to)) (rank site law flow r e.message.class e.list) ends in
          omega (arith, z, c)

  done_less : (s : SiteState) (sane : Sane site law flow bound some s) (r v a : ℕ) (job : Job (plan_at site r) (s.relays r) v (occurrence.Run a)) (new : SiteState)
      → new ≡ push_outs (record s { relays = with_relay s.relays r (advanced (plan_at site r) (s.relays r) v (occurrence.Run a) job) }) r (Out.Passed a job.entry ∷ [])
      → w new < w s
  done_less s sane r v a job new after =
      let plan = plan_at site r in
      let o = occurrence.Run a in
      let d : SiteAction = record { relay = r; action = a } in
      let state = advanced plan (s.relays r) v o job in
      let at_r = there s sane r v o job in
      let tags = s.passed d ++ job.entry.tag ∷ [] in
      let f = falls s sane r v o job in
      let act : a < length plan.actions = leads_at plan at_r.whole job.entry.list job.number o job.found in
      let x = of_relay site law flow s.copies s.relays s.passed r state at_r.within in
      let y = of_link site law flow s.copies (with_relay s.relays r state) s.passed d tags at_r.within act in
      let z = total_append (on_link site law flow s.copies d) (s.passed d) (job.entry.tag ∷ []) in
      let c = cheap s sane r v a job in
      subst (λ q. w q < w s) (sym after) (omega (arith, f, x, y, z, c))

  take_less : (s : SiteState) (sane : Sane site law flow bound some s) (to : SiteInput) (h : ℕ) (link : SiteAction) (place : ℕ) (new : SiteState)
      → TakesFrom site s to h link place new → w new < w s
  take_less s sane to h link place new st =
      let node = st.takes.node in
      let relay_step = st.takes.step in
      let state = relay_step.state in
      let lost = relay_step.step.0 in
      let takes = relay_step.step.1 in
      let plan = plan_at site to.relay in
      let there = is_there site law to.relay (λ p. length p.inputs) refl (let l = takes.there.0 in omega (arith, l)) in
      let act = target_there site link to st.leads in
      let from = is_there site law link.relay (λ p. length p.actions) refl (omega (arith, act)) in
      let tags = st.before ++ st.behind in
      let copy = off_link site link st.copy in
      let copies = s.copies ++ taken_by to.relay copy ∷ [] in
      let start : SiteState = record s { passed = with_passed s.passed link tags; copies = copies } in
      let mid : SiteState = record start { relays = with_relay s.relays to.relay state } in
      let new_is : new ≡ push_outs mid to.relay (if_so lost (Out.Lost Cause.Take node))
      = relay_step.after ∙ ap (push_outs mid to.relay) relay_step.step.2 in
      let outs = if_so lost (Out.Lost Cause.Take node) in
      let list = (input_at plan to.input).list in
      let v = of_copies site law flow s.copies (taken_by to.relay copy) s.relays s.passed sane.tags.passed in
      let x = of_relay site law flow copies s.relays (with_passed s.passed link tags) to.relay state there.within in
      let y = of_link site law flow copies s.relays s.passed link tags from.within act in
      let z : link_weight site law flow copies link (s.passed link) ≡ link_weight site law flow copies link (st.before ++ st.tag ∷ st.behind)
      = ap (link_weight site law flow copies link) st.on_link in
      let z1 = total_append (on_link site law flow copies link) st.before (st.tag ∷ st.behind) in
      let z2 = total_append (on_link site law flow copies link) st.before st.behind in
      let rises = take_rises plan (small site law flow to.relay) (rank site law flow to.relay) (s.relays to.relay) to.input h node lost state (sane.shaped to.relay) takes in
      let weight_of : on_link site law flow copies link st.tag ≡ 4 + most (rank site law flow to.relay st.copy.message.class list)
      = ap (λ o. tag_of site law flow o (slice_get copies st.tag)) st.leads
      ∙ ap (tag_of site law flow (Some to)) (get_more s.copies st.tag st.copy (taken_by to.relay copy) st.is) in
      let same : most (rank site law flow to.relay node.message.class node.list) ≡ most (rank site law flow to.relay st.copy.message.class list)
      = ap (λ (x : Said). most (rank site law flow to.relay x.class node.list)) st.takes.message
      ∙ ap (λ l. most (rank site law flow to.relay st.copy.message.class l)) takes.made.list in
      let lighter : measure site law flow copies (with_relay s.relays to.relay state) (with_passed s.passed link tags) < w s
      = omega (arith, v, x, y, z, z1, z2, rises, weight_of, same) in
      subst (λ q. w q < w s) (sym new_is)
      (by_parts (push_outs mid to.relay outs) start (with_relay s.relays to.relay state) (with_passed s.passed link tags) (w s)
      (push_outs_copies mid to.relay outs) (push_outs_relays mid to.relay outs) (if_so_passed mid to.relay lost Cause.Take node) lighter)

  inside_own : (s : SiteState) → Sane site law flow bound some s → (r : ℕ) (event : Event) (new : SiteState) (state : RelayState) (outs : List Out)
      → IsOwnEvent event → Step (plan_at site r) (s.relays r) event state outs
      → new ≡ push_outs (record s { relays = with_relay s.relays r state }) r outs → w new < w s
  inside_own s sane r (Event.Enter i h) new state outs own (node, enters, is) after =
      let there = is_there site law r (λ plan. length plan.inputs) refl (let l = enters.leaves.there.0 in omega (arith, l)) in
      inside_less s r state outs new after
      (subst (λ z. (push_outs (record s { relays = with_relay s.relays r state }) r z).passed ≡ s.passed) (sym is) refl) there.within
      (enter_falls (plan_at site r) (small site law flow r) (rank site law flow r) (s.relays r) i h node state there.whole (sane.shaped r) enters)
  inside_own s sane r (Event.Grab v) new state outs own (lost, grabs, is) after =
      let there = there_by_worker r v grabs.there in
      let q = queue_of_worker (plan_at site r) v in
      let one = (parameters_in_range (plan_at site r) q there.whole (there.whole.worker_queues v _ grabs.there)).batch_least in
      inside_less s r state outs new after
      (subst (λ z. (push_outs (record s { relays = with_relay s.relays r state }) r z).passed ≡ s.passed) (sym is)
      (lost_passed (record s { relays = with_relay s.relays r state }) r Cause.Grab lost)) there.within
      (grab_falls (plan_at site r) (small site law flow r) (rank site law flow r) (s.relays r) v lost state there.whole (sane.shaped r) (omega (arith, one)) grabs)
  inside_own s sane r (Event.Done v) new state outs own (a, e, settles, is) after =
      let on : RelayState → SiteState = λ st. record s { relays = with_relay s.relays r st } in
      done_less s sane r v a settles.job new
      (after ∙ ap (λ st. push_outs (on st) r outs) settles.after ∙ ap (push_outs (on (advanced (plan_at site r) (s.relays r) v (occurrence.Run a) settles.job)) r) is
      ∙ ap (λ z. push_outs (on (advanced (plan_at site r) (s.relays r) v (occurrence.Run a) settles.job)) r (Out.Passed a z ∷ [])) (sym settles.its))
  inside_own s sane r (Event.Post v) new state outs own (l, node, lost, posts, is) after =
      let at_r = there s sane r v (occurrence.Post l) posts.job in
      let e = posts.job.entry in
      let ends = flow.ends e.message.class (record { relay = r; list = e.list }) (record { relay = r; list = l })
      (by_post r e.list posts.job.number l (followed s sane r v (occurrence.Post l) posts.job) (does s sane r v (occurrence.Post l) posts.job)) in
      inside_less s r state outs new after
      (subst (λ z. (push_outs (record s { relays = with_relay s.relays r state }) r z).passed ≡ s.passed) (sym is)
      (if_so_passed (record s { relays = with_relay s.relays r state }) r lost (Cause.Post l) e)) at_r.within
      (post_falls (plan_at site r) (small site law flow r) (rank site law flow r) (s.relays r) v l node lost state at_r.whole (sane.shaped r) posts ends)
  inside_own s sane r (Event.PostLost v no_memory) new state outs own (l, e, loses, is) after =
      let o = occurrence.Post l in
      let at_r = there s sane r v o loses.job in
      let f = falls s sane r v o loses.job in
      let c = cost_some (rank site law flow r loses.job.entry.message.class loses.job.entry.list) in
      inside_less s r state outs new after
      (subst (λ z. (push_outs (record s { relays = with_relay s.relays r state }) r z).passed ≡ s.passed) (sym is) refl) at_r.within
      (subst (λ z. weigh site law flow r z < weigh site law flow r (s.relays r)) (sym loses.after) (omega (arith, f, c)))
  inside_own s sane r (Event.Take i h node) new state outs own step after = absurd own
  inside_own s sane r (Event.Expire i h) new state outs own step after = absurd own
  inside_own s sane r (Event.Fail v took) new state outs own step after = absurd own
  inside_own s sane r (Event.GiveUp v took) new state outs own step after = absurd own

  -- each own step makes the site lighter
  pub own_less : (s : SiteState) → Sane site law flow bound some s → (event : SiteEvent) (new : SiteState) → OwnStep site bound s event new → w new < w s
  own_less s sane (SiteEvent.TakeNew to h message) new st = absurd st.own
  own_less s sane (SiteEvent.TakeFrom to h link place) new st = take_less s sane to h link place new st.step
  own_less s sane (SiteEvent.Inside r event) new st = inside_own s sane r event new st.step.1.state st.step.1.outs st.own st.step.1.step st.step.1.after

  -- so there are few
  pub few : (before : List SiteEvent) (s : SiteState) → Runs site before s → (events : List SiteEvent) (end : SiteState) → OwnSteps site bound s events end
      → length events + w end ≤ w s
  few before s run [] end is = let e : w end ≡ w s = ap w is in omega (arith, e)
  few before s run (event ∷ events) end (between, st, more) =
      let less = own_less s (sane_run site law flow bound some before s run) event between st in
      let rest = few (before ++ event ∷ []) between (steps_on site (opening site) before s event between run st.step) events end more in
      omega (arith, less, rest)

  -- own steps are steps
  run_on : (before : List SiteEvent) (s : SiteState) → Runs site before s → (events : List SiteEvent) (end : SiteState) → OwnSteps site bound s events end
      → (all : List SiteEvent) × Runs site all end
  run_on before s run [] end is = (before, subst (Runs site before) (sym is) run)
  run_on before s run (event ∷ events) end (between, st, more) =
      run_on (before ++ event ∷ []) between (steps_on site (opening site) before s event between run st.step) events end more

  -- and where none is possible, nothing is held
  pub empty_at_rest : (before : List SiteEvent) (s : SiteState) → Runs site before s → IsAtRest site bound s → HoldsNothing site s
  empty_at_rest before s run rest = go (w s) refl
    where
      sane : Sane site law flow bound some s
      sane = sane_run site law flow bound some before s run

      go : (n : ℕ) → w s ≡ n → HoldsNothing site s
      go ℕ.zero e = weightless site law flow bound some s sane e
      go (ℕ.suc n) e = let g = something_goes site law flow bound some s sane (omega (arith, e)) in absurd (rest g.event g.new g.step)

  pub written_at_rest : IsSound site → (before : List SiteEvent) (s : SiteState) → Runs site before s → (events : List SiteEvent) (end : SiteState)
      → OwnSteps site bound s events end → IsAtRest site bound end → AreWritten site end
  written_at_rest sound before s run events end steps rest =
      let all = run_on before s run events end steps in
      written_when_empty site law flow bound some end (safe_run site law sound all.0 end all.1) (empty_at_rest all.0 end all.1 rest)
