-- A site that flows can be emptied by its own steps, and then all is written that must be.
use Rattle.std.proofs.Common.{◌≡◌, ℕ, ◌+◌, ◌<◌, ◌≤◌, List, [], ◌∷◌, ◌++◌, length, refl, sym, subst, ap, arith, ◌∙◌, Option, Some, None, inl, inr}
use Rattle.std.specs.Prelude.{slice_get}
use Rattle.std.specs.List.{Contains}
use Rattle.std.proofs.lemmas.Bool.{cases_lt}
use Rattle.std.proofs.lemmas.List.{get_or_past}
use Rattle.std.proofs.lemmas.Option.{slice_get_past}
use Rattle.sy_chain.specs.Entries.{Entry}
use Rattle.sy_rules.specs.PlanValue.{Plan}
use Rattle.sy_board.specs.relay.Cells.{Cell, IsShaped, at, waiting}
use Rattle.sy_board.specs.relay.Plans.{queue_of_input, queue_of_worker}
use Rattle.sy_board.specs.relay.Steps.{Event}
use Rattle.sy_flowing.proofs.relay.Weights.{at_worker, in_hand, in_queue, most, total}
use Rattle.sy_site.specs.declared.site.SiteAction.{SiteAction}
use Rattle.sy_site.specs.declared.site.SiteInput.{SiteInput}
use Rattle.sy_site.specs.Sites.{Site, no_plan, plan_at, plan_in, target}
use Rattle.sy_site.specs.machine.States.{SiteState, opening}
use Rattle.sy_site.specs.machine.Steps.{Runs, SiteEvent, SiteStep}
use Rattle.sy_flowing.specs.Flowing.{IsFlowing, input_list, input_queue}
use Rattle.sy_flowing.specs.OwnSteps.{AreWritten, CanEmpty, CanFinish, HoldsNothing, IsOwn, OwnSteps}
use Rattle.sy_site.specs.machine.Lawful.{IsLawful}
use Rattle.sy_site.specs.machine.Safety.{AreSafe}
use Rattle.sy_site.specs.machine.Soundness.{IsSound}
use Rattle.sy_flowing.proofs.steps.Measure.{is_there, link_weight, links, nothing_at, on_link, part, rank, small, something_at, sum_some, sum_zero, tag_of, target_there}
use Rattle.sy_site.proofs.machine.Naming.{relay_arrivals}
use Rattle.sy_flowing.proofs.steps.Moves.{Goes, Sane, hand_goes, high, link_goes, sane_run, weighs}
use Rattle.sy_flowing.proofs.steps.Progress.{queue_goes, worker_goes}
use Rattle.sy_site.proofs.machine.SafeRun.{safe_run, steps_on}

total_none : (f : ℕ → ℕ) (xs : List ℕ) → ((x : ℕ) → f x ≡ 0) → total f xs ≡ 0
total_none f [] none = refl
total_none f (x ∷ xs) none = let r = total_none f xs none in let h = none x in omega (arith, r, h)

no_member : {A : Type 0} (xs : List A) (x : A) → xs ≡ [] → Contains xs x → ⊥
no_member xs x none c = let d : Contains [] x = subst (λ ys. Contains ys x) none c in let l = d.1 in omega (arith, l)

own_arrivals : (site : Site) (s : SiteState) (e : SiteEvent) (new : SiteState) → IsOwn e → SiteStep site s e new → new.arrivals ≡ s.arrivals
own_arrivals site s (SiteEvent.TakeNew to h m) new own st = absurd own
own_arrivals site s (SiteEvent.TakeFrom to h link place) new own st =
    relay_arrivals site _ to.relay (Event.Take to.input h st.takes.node) new st.takes.step
own_arrivals site s (SiteEvent.Inside r event) new own st = relay_arrivals site s r event new st.1

module _ (site : Site) (law : IsLawful site) (flow : IsFlowing site) (bound : ℕ) (some : 1 ≤ bound) where
  -- whatever weighs something, gives a step
  pub something_goes : (s : SiteState) → Sane site law flow bound some s → 0 < weighs site law flow bound some s → Goes site law flow bound some s
  something_goes s sane l =
      let at_relay = sum_some (length site.relays) (part site law flow s.copies s.relays s.passed) l in
      by_relay at_relay.place at_relay.some
    where
      below : (n : ℕ) → (r q : ℕ) → 0 < waiting (s.relays r) q → high site law flow bound some r q < n → Goes site law flow bound some s
      below n = queue_goes site law flow bound some n s sane

      by_link : (r a : ℕ) → 0 < link_weight site law flow s.copies (record { relay = r; action = a }) (s.passed (record { relay = r; action = a }))
          → Goes site law flow bound some s
      by_link r a l = go (s.passed (record { relay = r; action = a })) refl (target site (record { relay = r; action = a })) refl
        where
          link : SiteAction
          link = record { relay = r; action = a }

          go : (on : List ℕ) → s.passed link ≡ on → (to : Option SiteInput) → target site link ≡ to → Goes site law flow bound some s
          go on is None none =
              let z = total_none (on_link site law flow s.copies link) (s.passed link)
              (λ tag. ap (λ o. tag_of site law flow o (slice_get s.copies tag)) none) in
              absurd (omega (arith, l, z))
          go [] is (Some to) leads =
              let y : link_weight site law flow s.copies link (s.passed link) ≡ 0 = ap (link_weight site law flow s.copies link) is in
              absurd (omega (arith, l, y))
          go (tag ∷ tags) is (Some to) leads =
              let n = ℕ.suc (flow.height (input_queue site to)) in
              link_goes site law flow bound some n s sane (below n) link to leads tag tags is (omega arith)

      by_relay : (r : ℕ) → 0 < part site law flow s.copies s.relays s.passed r → Goes site law flow bound some s
      by_relay r l =
          let plan = plan_at site r in
          go (total (total (in_hand plan (small site law flow r) (rank site law flow r))) (s.relays r).hands) refl
          (total (total (in_queue plan (small site law flow r) (rank site law flow r))) (s.relays r).queues) refl
          (total (total (at_worker plan (small site law flow r) (rank site law flow r))) (s.relays r).workers) refl
        where
          hands : ℕ
          hands = total (total (in_hand (plan_at site r) (small site law flow r) (rank site law flow r))) (s.relays r).hands

          queues : ℕ
          queues = total (total (in_queue (plan_at site r) (small site law flow r) (rank site law flow r))) (s.relays r).queues

          workers : ℕ
          workers = total (total (at_worker (plan_at site r) (small site law flow r) (rank site law flow r))) (s.relays r).workers

          go : (a : ℕ) → hands ≡ a → (b : ℕ) → queues ≡ b → (c : ℕ) → workers ≡ c → Goes site law flow bound some s
          go (ℕ.suc a) e b f c g =
              let h = something_at (in_hand (plan_at site r) (small site law flow r) (rank site law flow r)) (s.relays r).hands (omega (arith, e)) in
              let n = ℕ.suc (high site law flow bound some r (queue_of_input (plan_at site r) h.1.input)) in
              hand_goes site law flow bound some n s sane (below n) r h.0 h.1 h.2 h.3 (omega arith)
          go ℕ.zero e (ℕ.suc b) f c g =
              let h = something_at (in_queue (plan_at site r) (small site law flow r) (rank site law flow r)) (s.relays r).queues (omega (arith, f)) in
              let n = ℕ.suc (high site law flow bound some r h.0) in
              below n r h.0 (let m = ap (λ (xs : List Entry). length xs) h.3 in omega (arith, m)) (omega arith)
          go ℕ.zero e ℕ.zero f (ℕ.suc c) g =
              let h = something_at (at_worker (plan_at site r) (small site law flow r) (rank site law flow r)) (s.relays r).workers (omega (arith, g)) in
              let n = high site law flow bound some r (queue_of_worker (plan_at site r) h.0) in
              worker_goes site law flow bound some n s sane (below n) r h.0 h.1 h.2 h.3 (omega arith)
          go ℕ.zero e ℕ.zero f ℕ.zero g =
              let m = sum_some (length (plan_at site r).actions) _ (the_links e f g) in
              by_link r m.place m.some
            where
              the_links : hands ≡ 0 → queues ≡ 0 → workers ≡ 0 → 0 < links site law flow s.copies s.passed r
              the_links e f g = omega (arith, e, f, g, l)

  -- ---- nothing is heavier than nothing

  pub weightless : (s : SiteState) → Sane site law flow bound some s → weighs site law flow bound some s ≡ 0 → HoldsNothing site s
  weightless s sane z = record { held = held; passed = passed }
    where
      there : (r : ℕ) → r < length site.relays → (cell : Cell) → at (s.relays r) cell ≡ []
      there r l (Cell.Hand k) =
          let p = sum_zero (length site.relays) r (part site law flow s.copies s.relays s.passed) z l in
          nothing_at (in_hand (plan_at site r) (small site law flow r) (rank site law flow r)) (λ e. omega arith) (s.relays r).hands k (omega (arith, p))
      there r l (Cell.Queue k) =
          let p = sum_zero (length site.relays) r (part site law flow s.copies s.relays s.passed) z l in
          nothing_at (in_queue (plan_at site r) (small site law flow r) (rank site law flow r)) (λ e. omega arith) (s.relays r).queues k (omega (arith, p))
      there r l (Cell.Worker k) =
          let p = sum_zero (length site.relays) r (part site law flow s.copies s.relays s.passed) z l in
          nothing_at (at_worker (plan_at site r) (small site law flow r) (rank site law flow r)) (λ e. omega arith) (s.relays r).workers k (omega (arith, p))

      beyond : (r : ℕ) → plan_at site r ≡ no_plan → (cell : Cell) → at (s.relays r) cell ≡ []
      beyond r none cell = go cell (subst (λ (p : Plan). IsShaped p (s.relays r)) none (sane.shaped r))
        where
          go : (cell : Cell) → IsShaped no_plan (s.relays r) → at (s.relays r) cell ≡ []
          go (Cell.Hand k) shaped = let l = shaped.hands in get_or_past (s.relays r).hands k [] (omega (arith, l))
          go (Cell.Queue k) shaped = let l = shaped.queues in get_or_past (s.relays r).queues k [] (omega (arith, l))
          go (Cell.Worker k) shaped = let l = shaped.workers in get_or_past (s.relays r).workers k [] (omega (arith, l))

      held : (r : ℕ) (cell : Cell) → at (s.relays r) cell ≡ []
      held r cell = elim (cases_lt r (length site.relays)) [
        | inl l ↦ there r l cell
        | inr l ↦ beyond r (ap plan_in (slice_get_past site.relays r l)) cell
      ]

      passed : (link : SiteAction) (to : SiteInput) → target site link ≡ Some to → s.passed link ≡ []
      passed link to leads =
          let act = target_there site link to leads in
          let from = is_there site law link.relay (λ (p : Plan). length p.actions) refl (omega (arith, act)) in
          let p = sum_zero (length site.relays) link.relay (part site law flow s.copies s.relays s.passed) z from.within in
          let q = sum_zero (length (plan_at site link.relay).actions) link.action
          (λ a. link_weight site law flow s.copies (record { relay = link.relay; action = a }) (s.passed (record { relay = link.relay; action = a })))
          (omega (arith, p)) act in
          go (s.passed link) refl q
        where
          go : (on : List ℕ) → s.passed link ≡ on → link_weight site law flow s.copies link (s.passed link) ≡ 0 → s.passed link ≡ []
          go [] is q = is
          go (tag ∷ tags) is q =
              let named = sane.tags.passed link tag (subst (λ xs. Contains xs tag) (sym is) (0, omega arith, refl)) in
              let y : on_link site law flow s.copies link tag ≡ 4 + most (flow.left named.0.message.class (input_list site to))
              = ap (λ o. tag_of site law flow o (slice_get s.copies tag)) leads ∙ ap (tag_of site law flow (Some to)) named.1 in
              let x : link_weight site law flow s.copies link (s.passed link) ≡ on_link site law flow s.copies link tag + link_weight site law flow s.copies link tags
              = ap (link_weight site law flow s.copies link) is in
              absurd (omega (arith, q, x, y))

  -- ---- all of it

  pub record Emptied (s : SiteState) : Type 0 where
    pub before : List SiteEvent
    pub events : List SiteEvent
    pub end : SiteState
    pub steps : OwnSteps site bound s events end
    pub run : Runs site before end
    pub arrivals : end.arrivals ≡ s.arrivals
    pub empty : HoldsNothing site end

  pub emptied : (fuel : ℕ) (before : List SiteEvent) (s : SiteState) → Runs site before s → weighs site law flow bound some s ≤ fuel → Emptied s
  emptied ℕ.zero before s run l = record {
    before = before;
    events = [];
    end = s;
    steps = refl;
    run = run;
    arrivals = refl;
    empty = weightless s (sane_run site law flow bound some before s run) (omega (arith, l));
  }
  emptied (ℕ.suc fuel) before s run l = go (weighs site law flow bound some s) refl (emptied fuel)
    where
      sane : Sane site law flow bound some s
      sane = sane_run site law flow bound some before s run

      go : (w : ℕ) → weighs site law flow bound some s ≡ w
          → ((before : List SiteEvent) (s : SiteState) → Runs site before s → weighs site law flow bound some s ≤ fuel → Emptied s) → Emptied s
      go ℕ.zero none more = record {
        before = before;
        events = [];
        end = s;
        steps = refl;
        run = run;
        arrivals = refl;
        empty = weightless s sane none;
      }
      go (ℕ.suc w) is more =
          let g = something_goes s sane (omega (arith, is)) in
          let less = g.less in
          let run_on = steps_on site (opening site) before s g.event g.new run g.step.step in
          let r = more (before ++ g.event ∷ []) g.new run_on (omega (arith, less, l)) in
          record {
            before = r.before;
            events = g.event ∷ r.events;
            end = r.end;
            steps = (g.new, g.step, r.steps);
            run = r.run;
            arrivals = r.arrivals ∙ own_arrivals site s g.event g.new g.step.own g.step.step;
            empty = r.empty;
          }

  pub can_empty : (events : List SiteEvent) (s : SiteState) → Runs site events s → CanEmpty site bound s
  can_empty events s run =
      let r = emptied (weighs site law flow bound some s) events s run (omega arith) in
      record { events = r.events; end = r.end; steps = r.steps; arrivals = r.arrivals; empty = r.empty }

  -- what is safe in an empty site, is written
  pub written_when_empty : (s : SiteState) → AreSafe site s → HoldsNothing site s → AreWritten site s
  written_when_empty s safe empty number arrival at_number protected entered archive named =
      elim ((safe number arrival at_number protected entered).kept archive named) [
        | inl written ↦ written
        | inr (inl held) ↦ absurd (no_member (at (s.relays held.relay) held.cell) held.entry (empty.held held.relay held.cell) held.there)
        | inr (inr link) ↦ absurd (no_member (s.passed link.link) link.tag (empty.passed link.link link.to link.leads) link.there)
      ]

  pub can_finish : IsSound site → (events : List SiteEvent) (s : SiteState) → Runs site events s → CanFinish site bound s
  can_finish sound events s run =
      let r = emptied (weighs site law flow bound some s) events s run (omega arith) in
      record {
        events = r.events;
        end = r.end;
        steps = r.steps;
        arrivals = r.arrivals;
        written = written_when_empty r.end (safe_run site law sound r.before r.end r.run) r.empty;
      }
