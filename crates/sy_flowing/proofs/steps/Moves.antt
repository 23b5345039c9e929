-- What can be done in a site that flows with what a hand, a link or a worker has, so that the site gets lighter.
use Rattle.std.proofs.Common.{◌≡◌, ℕ, ◌+◌, ◌*◌, ◌<◌, ◌≤◌, Bool, true, false, if◌then◌else◌, List, [], ◌∷◌, ◌++◌, length, refl, sym, subst, ap, arith, ◌∙◌, get_or, Some, inl, inr, length-append}
use Rattle.std.specs.Prelude.{◌⊎◌, slice_get}
use Rattle.std.specs.List.{Contains}
use Rattle.sy_chain.specs.Entries.{Entry}
use Rattle.sy_marks.specs.Marks.{discards, is_delayed}
use Rattle.sy_rules.specs.declared.lists.occurrence.Occurrence.TheVariants as occurrence
use Rattle.sy_rules.specs.parameters.Objects.{AreInRange}
use Rattle.sy_rules.specs.lists.Body.{count}
use Rattle.sy_rules.specs.Whole.{IsWhole, queue_for}
use Rattle.sy_board.specs.relay.Cells.{Cell, RelayState, at, set_cell, hand, waiting}
use Rattle.sy_board.specs.relay.Plans.{flow_at, input_at, marks_at, parameters_at, queue_of_input}
use Rattle.sy_board.specs.relay.Steps.{Cause, Enters, Event, Job, Out, Step, Takes, advanced, if_so}
use Rattle.sy_flowing.proofs.relay.Weights.{advanced_falls, cost, enter_falls, most, take_rises, total_append}
use Rattle.sy_site.specs.declared.site.SiteAction.{SiteAction}
use Rattle.sy_site.specs.declared.site.SiteInput.{SiteInput}
use Rattle.sy_site.specs.Sites.{Site, plan_at, target}
use Rattle.sy_site.specs.machine.States.{SiteState, off_link, push_outs, taken_by, with_passed, with_relay}
use Rattle.sy_site.specs.machine.Steps.{IsTake, Runs, SiteEvent}
use Rattle.sy_flowing.specs.Flowing.{IsFlowing, input_queue}
use Rattle.sy_flowing.specs.OwnSteps.{IsOwnEvent, OwnStep}
use Rattle.sy_site.specs.machine.Lawful.{IsLawful}
use Rattle.sy_site.specs.machine.Naming.{AreShaped, TagsName}
use Rattle.sy_site.proofs.machine.Marks.{push_outs_relays}
use Rattle.sy_flowing.proofs.steps.Measure.{IsThere, is_there, link_weight, measure, of_copies, of_link, of_relay, on_link, rank, small, tag_of, target_there, weigh}
use Rattle.sy_site.proofs.machine.Naming.{shaped_run, tags_run}
use Rattle.sy_flowing.proofs.steps.Relays.{push_outs_copies}
use Rattle.sy_flowing.proofs.steps.Places.{IsTidy, Placed, placed_run, tidy_run}
use Rattle.sy_site.proofs.machine.Spread.{action_elim, get_more}
use Rattle.sy_flowing.proofs.steps.PlanFacts.{due_for, get_within, input_of_target, leads_at, never_delayed, parameters_in_range}

-- ---- steps

not_take : (event : Event) → IsOwnEvent event → IsTake event → ⊥
not_take (Event.Take i h node) own takes = own
not_take (Event.Enter i h) own takes = takes
not_take (Event.Expire i h) own takes = takes
not_take (Event.Grab w) own takes = takes
not_take (Event.Done w) own takes = takes
not_take (Event.Fail w took) own takes = takes
not_take (Event.GiveUp w took) own takes = takes
not_take (Event.Post w) own takes = takes
not_take (Event.PostLost w no_memory) own takes = takes

pub if_so_passed : (s : SiteState) (r : ℕ) (b : Bool) (cause : Cause) (e : Entry) → (push_outs s r (if_so b (Out.Lost cause e))).passed ≡ s.passed
if_so_passed s r true cause e = refl
if_so_passed s r false cause e = refl

one_longer : {A : Type 0} (xs : List A) (x : A) → length (xs ++ x ∷ []) ≡ ℕ.suc (length xs)
one_longer xs x = let l = length-append xs (x ∷ []) in omega (arith, l)

pub in_cell : (xs : List Entry) (e : Entry) (es : List Entry) → xs ≡ e ∷ es → Contains xs e
in_cell xs e es is = subst (λ ys. Contains ys e) (sym is) (0, omega arith, refl)

pub within_of : {A : Type 0} (xss : List (List A)) (k : ℕ) (x : A) (xs : List A) → get_or xss k [] ≡ x ∷ xs → k < length xss
within_of [] k x xs e = cc
within_of (ys ∷ xss) ℕ.zero x xs e = omega arith
within_of (ys ∷ xss) (ℕ.suc k) x xs e = let r = within_of xss k x xs e in omega (arith, r)

module _ (site : Site) (law : IsLawful site) (flow : IsFlowing site) (bound : ℕ) (some : 1 ≤ bound) where
  abbrev pub weighs : SiteState → ℕ
  weighs s = measure site law flow s.copies s.relays s.passed

  -- an own step that makes the site lighter
  pub record Goes (s : SiteState) : Type 0 where
    pub event : SiteEvent
    pub new : SiteState
    pub step : OwnStep site bound s event new
    pub less : weighs new < weighs s

  -- what a state that a run leads to keeps
  pub record Sane (s : SiteState) : Type 0 where
    pub shaped : AreShaped site s
    pub tidy : (r : ℕ) → IsTidy (s.relays r)
    pub placed : (r : ℕ) (c : Cell) (e : Entry) → Contains (at (s.relays r) c) e → Placed site r c e
    pub tags : TagsName s

  pub sane_run : (es : List SiteEvent) (s : SiteState) → Runs site es s → Sane s
  sane_run es s run = record { shaped = shaped_run site es s run; tidy = tidy_run site es s run; placed = placed_run site es s run; tags = tags_run site es s run }

  pub there_by_input : (r i : ℕ) → i < length (plan_at site r).inputs → IsThere site r
  there_by_input r i l = is_there site law r (λ plan. length plan.inputs) refl (omega (arith, l))

  -- a relay's own step by which nothing passes
  pub inside_goes : (s : SiteState) (r : ℕ) (event : Event) (state : RelayState) (outs : List Out) → IsOwnEvent event
      → Step (plan_at site r) (s.relays r) event state outs
      → (push_outs (record s { relays = with_relay s.relays r state }) r outs).passed ≡ s.passed → r < length site.relays
      → weigh site law flow r state < weigh site law flow r (s.relays r) → Goes s
  inside_goes s r event state outs own step same l falls =
      let mid : SiteState = record s { relays = with_relay s.relays r state } in
      let new : SiteState = push_outs mid r outs in
      let a = of_relay site law flow s.copies s.relays s.passed r state l in
      let lighter : measure site law flow s.copies (with_relay s.relays r state) s.passed < weighs s = omega (arith, a, falls) in
      record {
        event = SiteEvent.Inside r event;
        new = new;
        step = record {
          own = own;
          step = (not_take event own, record { state = state; outs = outs; step = step; after = refl });
          within = λ link to leads. inr (subst (λ (p : SiteAction → List ℕ). length (p link) ≤ length (s.passed link)) (sym same) (omega arith));
        };
        less = subst (λ c. measure site law flow c new.relays new.passed < weighs s) (sym (push_outs_copies mid r outs))
            (subst (λ p. measure site law flow s.copies new.relays p < weighs s) (sym same)
            (subst (λ z. measure site law flow s.copies z s.passed < weighs s) (sym (push_outs_relays mid r outs)) lighter));
      }

  -- a Done
  pub done_goes : (s : SiteState) (r w a : ℕ) → IsThere site r → AreShaped site s
      → (job : Job (plan_at site r) (s.relays r) w (occurrence.Run a))
      → ((to : SiteInput) → target site (record { relay = r; action = a }) ≡ Some to → length (s.passed (record { relay = r; action = a })) < bound)
      → on_link site law flow s.copies (record { relay = r; action = a }) job.entry.tag < cost (rank site law flow r job.entry.message.class job.entry.list)
      → Goes s
  done_goes s r w a there shaped job room cheap =
      let plan = plan_at site r in
      let d : SiteAction = record { relay = r; action = a } in
      let e = job.entry in
      let state = advanced plan (s.relays r) w (occurrence.Run a) job in
      let mid : SiteState = record s { relays = with_relay s.relays r state } in
      let v = s.passed d ++ e.tag ∷ [] in
      let new : SiteState = record mid { passed = with_passed s.passed d v } in
      let f = advanced_falls plan (small site law flow r) (rank site law flow r) (s.relays r) w (occurrence.Run a) (shaped r) job in
      let act : a < length plan.actions = leads_at plan there.whole e.list job.number (occurrence.Run a) job.found in
      let x = of_relay site law flow s.copies s.relays s.passed r state there.within in
      let y = of_link site law flow s.copies (with_relay s.relays r state) s.passed d v there.within act in
      let z = total_append (on_link site law flow s.copies d) (s.passed d) (e.tag ∷ []) in
      record {
        event = SiteEvent.Inside r (Event.Done w);
        new = new;
        step = record {
          own = tt;
          step = (λ t. t, record { state = state; outs = Out.Passed a e ∷ []; step = (a, e, record { job = job; its = refl; after = refl }, refl); after = refl });
          within = action_elim (λ link l. (to : SiteInput) → target site link ≡ Some to → (length l ≤ bound) ⊎ (length l ≤ length (s.passed link))) s.passed d v
              (λ to leads. inl (let m = room to leads in let n = one_longer (s.passed d) e.tag in omega (arith, m, n)))
              (λ link to leads. inr (omega arith));
        };
        less = omega (arith, f, x, y, z, cheap);
      }

  -- ---- a queue of a smaller height that isn't empty gives a step

  abbrev pub high : ℕ → ℕ → ℕ
  high r q = flow.height (record { relay = r; queue = q })

  -- wherever something waits in a queue below this height
  abbrev pub Below : ℕ → SiteState → Type 0
  Below n s = (r q : ℕ) → 0 < waiting (s.relays r) q → high r q < n → Goes s

  pub queues_are_lists : (r : ℕ) → IsWhole (plan_at site r) → (i : ℕ) → i < length (plan_at site r).inputs
      → queue_of_input (plan_at site r) i ≡ queue_for (plan_at site r) (input_at (plan_at site r) i).list
  queues_are_lists r whole i l = whole.input_queues_are_those_of_their_lists i _ l

  input_in_range : (r i : ℕ) → IsWhole (plan_at site r) → i < length (plan_at site r).inputs → AreInRange (parameters_at (plan_at site r) (queue_of_input (plan_at site r) i))
  input_in_range r i whole l = parameters_in_range (plan_at site r) (queue_of_input (plan_at site r) i) whole (whole.input_queues i _ l)

  -- a message in a hand enters, or its queue isn't empty
  pub hand_goes : (n : ℕ) (s : SiteState) → Sane s → Below n s → (r k : ℕ) (e : Entry) (es : List Entry) → at (s.relays r) (Cell.Hand k) ≡ e ∷ es
      → high r (queue_of_input (plan_at site r) e.input) < n → Goes s
  hand_goes n s sane below r k e es is l =
      let plan = plan_at site r in
      let p = sane.placed r (Cell.Hand k) e (in_cell _ e es is) in
      let there = there_by_input r e.input p.there in
      let place = p.place (queues_are_lists r there.whole) in
      let q = queue_of_input plan e.input in
      let one : es ≡ [] = alone es (subst (λ xs. length xs ≤ 1) is (sane.tidy r (Cell.Hand k))) in
      let held : at (s.relays r) (hand e.input place.0) ≡ e ∷ [] = subst (λ z. at (s.relays r) (Cell.Hand z) ≡ e ∷ []) place.2 (is ∙ ap (λ xs. e ∷ xs) one) in
      go there place.0 place.1 held p.there (waiting (s.relays r) q) refl
    where
      alone : (xs : List Entry) → ℕ.suc (length xs) ≤ 1 → xs ≡ []
      alone [] m = refl
      alone (x ∷ xs) m = absurd (omega (arith, m))

      go : IsThere site r → (h : ℕ) → h < 64 → at (s.relays r) (hand e.input h) ≡ e ∷ [] → e.input < length (plan_at site r).inputs
          → (count : ℕ) → waiting (s.relays r) (queue_of_input (plan_at site r) e.input) ≡ count → Goes s
      go there h small_hand held input_there ℕ.zero none =
          let plan = plan_at site r in
          let q = queue_of_input plan e.input in
          let state = set_cell (set_cell (s.relays r) (hand e.input h) []) (Cell.Queue q) (at (s.relays r) (Cell.Queue q) ++ e ∷ []) in
          let size = (input_in_range r e.input there.whole input_there).size_least in
          let enters : Enters plan (s.relays r) e.input h e state = record {
            leaves = record {
              there = (input_there, small_hand);
              held = held;
              not_held = subst (λ z. is_delayed (flow_at plan e.input) (marks_at plan q) z ≡ false) (sym none) (never_delayed (flow_at plan e.input) (marks_at plan q));
            };
            room = omega (arith, none, size);
            after = refl;
          } in
          inside_goes s r (Event.Enter e.input h) state [] tt (e, enters, refl) refl there.within
          (enter_falls plan (small site law flow r) (rank site law flow r) (s.relays r) e.input h e state there.whole (sane.shaped r) enters)
      go there h small_hand held input_there (ℕ.suc count) waits = below r (queue_of_input (plan_at site r) e.input) (omega (arith, waits)) l

  -- a copy on a link is taken, or the hand isn't free
  pub link_goes : (n : ℕ) (s : SiteState) → Sane s → Below n s → (link : SiteAction) (to : SiteInput) → target site link ≡ Some to
      → (tag : ℕ) (tags : List ℕ) → s.passed link ≡ tag ∷ tags → flow.height (input_queue site to) < n → Goes s
  link_goes n s sane below link to leads tag tags on l = go (at (s.relays to.relay) (hand to.input 0)) refl
    where
      go : (es : List Entry) → at (s.relays to.relay) (hand to.input 0) ≡ es → Goes s
      go (e ∷ es) is =
          let p = sane.placed to.relay (Cell.Hand (64 * to.input + 0)) e (in_cell _ e es is) in
          let there = there_by_input to.relay e.input p.there in
          let place = p.place (queues_are_lists to.relay there.whole) in
          let same : e.input ≡ to.input = (let a = place.1 in let b = place.2 in omega (arith, a, b)) in
          hand_goes n s sane below to.relay (64 * to.input + 0) e es is
          (subst (λ i. high to.relay (queue_of_input (plan_at site to.relay) i) < n) (sym same) l)
      go [] free =
          let plan = plan_at site to.relay in
          let input_is = input_of_target site (slice_get (plan_at site link.relay).actions link.action) to leads in
          let input_there : to.input < length plan.inputs = get_within plan.inputs to.input input_is.parts input_is.found in
          let there = there_by_input to.relay to.input input_there in
          let act = target_there site link to leads in
          let from = is_there site law link.relay (λ p. length p.actions) refl (omega (arith, act)) in
          let named = sane.tags.passed link tag (subst (λ xs. Contains xs tag) (sym on) (0, omega arith, refl)) in
          let copy = off_link site link named.0 in
          let list = (input_at plan to.input).list in
          let d = due_for plan list copy.message in
          let node : Entry = record { message = copy.message; list = list; input = to.input; due = d.due; tag = length s.copies } in
          let q = queue_of_input plan to.input in
          let lost = discards (marks_at plan q) node.message.class.severity (waiting (s.relays to.relay) q) in
          let state : RelayState = if lost then s.relays to.relay else set_cell (s.relays to.relay) (hand to.input 0) (node ∷ []) in
          let takes : Takes plan (s.relays to.relay) to.input 0 node lost state = record {
            there = (input_there, omega arith);
            made = record { input_is = refl; list = refl; due = d.is };
            free = free;
            discarded = refl;
            after = refl;
          } in
          let copies = s.copies ++ taken_by to.relay copy ∷ [] in
          let start : SiteState = record s { passed = with_passed s.passed link tags; copies = copies } in
          let mid : SiteState = record start { relays = with_relay s.relays to.relay state } in
          let outs = if_so lost (Out.Lost Cause.Take node) in
          let new : SiteState = push_outs mid to.relay outs in
          let same : new.passed ≡ with_passed s.passed link tags = if_so_passed mid to.relay lost Cause.Take node in
          let v = of_copies site law flow s.copies (taken_by to.relay copy) s.relays s.passed sane.tags.passed in
          let x = of_relay site law flow copies s.relays (with_passed s.passed link tags) to.relay state there.within in
          let y = of_link site law flow copies s.relays s.passed link tags from.within act in
          let z : link_weight site law flow copies link (s.passed link) ≡ on_link site law flow copies link tag + link_weight site law flow copies link tags
          = ap (link_weight site law flow copies link) on in
          let rises = take_rises plan (small site law flow to.relay) (rank site law flow to.relay) (s.relays to.relay) to.input 0 node lost state (sane.shaped to.relay) takes in
          let weight_of : on_link site law flow copies link tag ≡ 4 + most (rank site law flow to.relay copy.message.class list)
          = ap (λ o. tag_of site law flow o (slice_get copies tag)) leads
          ∙ ap (tag_of site law flow (Some to)) (get_more s.copies tag named.0 (taken_by to.relay copy) named.1) in
          let lighter : measure site law flow copies (with_relay s.relays to.relay state) (with_passed s.passed link tags) < weighs s
          = omega (arith, v, x, y, z, rises, weight_of) in
          record {
            event = SiteEvent.TakeFrom to 0 link 0;
            new = new;
            step = record {
              own = tt;
              step = record {
                leads = leads;
                before = [];
                tag = tag;
                behind = tags;
                on_link = on;
                stands = refl;
                copy = named.0;
                is = named.1;
                takes = record {
                  node = node;
                  message = refl;
                  tag = refl;
                  step = record { state = state; outs = outs; step = (lost, takes, refl); after = refl };
                };
              };
              within = λ other other_to other_leads. inr (subst (λ (p : SiteAction → List ℕ). length (p other) ≤ length (s.passed other)) (sym same)
                  (action_elim (λ k v. length v ≤ length (s.passed k)) s.passed link tags
                  (let m = ap (λ (xs : List ℕ). length xs) on in omega (arith, m)) (λ k. omega arith) other));
            };
            less = subst (λ c. measure site law flow c new.relays new.passed < weighs s) (sym (push_outs_copies mid to.relay outs))
                (subst (λ p. measure site law flow copies new.relays p < weighs s) (sym same)
                (subst (λ z. measure site law flow copies z (with_passed s.passed link tags) < weighs s) (sym (push_outs_relays mid to.relay outs)) lighter));
          }
