-- A step that a relay makes is the site's.
use Rattle.std.proofs.Common.{◌≡◌, ℕ, ◌<◌, ◌==◌, Bool, true, false, if◌then◌else◌, List, [], ◌∷◌, ◌++◌, length, map, Some, None, refl, sym, ap, subst, arith, ◌∙◌, append-nil, append_assoc}
use Rattle.std.specs.Prelude.{slice_get, slice_set, ◌&&◌, Result, Ok, Err, OnOk, OnErr}
use Rattle.std.proofs.Math.Path.{fun_ext}
use Rattle.std.proofs.Math.ListN.{set}
use Rattle.std.proofs.lemmas.List.{get_or-set_same, get_or-set_other, length-map, length-set}
use Rattle.std.proofs.lemmas.Bool.{eqb-false, eqb-true}
use Rattle.sy_wire.specs.Messages.{Said}
use Rattle.sy_chain.specs.Entries.{Entry}
use Rattle.sy_rules.specs.PlanValue.{Plan}
use Rattle.sy_rules.specs.Whole.{IsWhole}
use Rattle.sy_board.specs.relay.Boards.{BoardState, IsTooFull, stepped}
use Rattle.sy_board.specs.relay.Cells.{RelayState}
use Rattle.sy_board.specs.relay.Steps.{Cause, Event, Out, Step, if_so}
use Rattle.sy_site.specs.declared.site.SiteAction.{SiteAction}
use Rattle.sy_site.specs.Sites.{Site, no_plan, plan_at}
use Rattle.sy_site.specs.machine.States.{Arrival, Copy, Loss, SiteState, push_outs, with_passed, with_relay}
use Rattle.sy_site.specs.machine.Steps.{IsTake, RelaySteps, SiteEvent, SiteStep}
use Rattle.sy_replay.specs.declared.event.Illegal.{Illegal}
use Rattle.sy_replay.specs.declared.event.Illegal.TheVariants as illegal
use Rattle.sy_replay.specs.declared.event.RelayEvent.{RelayEvent}
use Rattle.sy_replay.specs.declared.event.RelayEvent.TheVariants as event
use Rattle.sy_replay.specs.Events.{step_of}
use Rattle.sy_replay.specs.internal.Events.{IsIllegal}
use Rattle.sy_replay.specs.Parts.{PartState, tags_at}
use Rattle.sy_replay.specs.internal.Parts.{Makes, Tags, TakesMessage, items_of, lost_by, part, passed_by}
use Rattle.sy_replay.specs.States.{Applies, IsIllegalAt, board_of, boards_of, holding, passed_in, passed_of, relays_of, site_state, state_of, with_board}
use Rattle.sy_replay.specs.internal.States.{AreOf, HasLists, HaveSamePlans, plan_of}
use Rattle.sy_replay.proofs.Refused.{run_there}

-- ---- lists

pub get_same : {A : Type 0} (xs : List A) (k : ℕ) (v x : A) → slice_get xs k ≡ Some x → slice_get (slice_set xs k v) k ≡ Some v
get_same [] k v x is = absurd (cc)
get_same (y ∷ ys) ℕ.zero v x is = refl
get_same (y ∷ ys) (ℕ.suc k) v x is = get_same ys k v x is

pub get_other : {A : Type 0} (xs : List A) (k j : ℕ) (v : A) → (k ≡ j → ⊥) → slice_get (slice_set xs k v) j ≡ slice_get xs j
get_other [] k j v other = refl
get_other (y ∷ ys) ℕ.zero ℕ.zero v other = absurd (other refl)
get_other (y ∷ ys) ℕ.zero (ℕ.suc j) v other = refl
get_other (y ∷ ys) (ℕ.suc k) ℕ.zero v other = refl
get_other (y ∷ ys) (ℕ.suc k) (ℕ.suc j) v other = get_other ys k j v (λ e. other (ap ℕ.suc e))

pub same_or : (k j : ℕ) (b : Bool) → (k == j) ≡ b → (b ≡ true → k ≡ j) × (b ≡ false → k ≡ j → ⊥)
same_or k j b is = (λ t. eqb-true k j (is ∙ t), λ f e. eqb-false k j (is ∙ f) e)

same_self : (b : Bool) (k : ℕ) → (k == k) ≡ b → b ≡ true
same_self true k is = refl
same_self false k is = absurd (eqb-false k k is refl)

-- ---- what a relay's devices took

-- these lists at this relay, others elsewhere
abbrev spread : ℕ → List (List ℕ) → (SiteAction → List ℕ) → SiteAction → List ℕ
spread k passed others = λ a. if k == a.relay then tags_at passed a.action else others a

-- each action that something comes to is there
abbrev AreThere : ℕ → List Out → Type 0
AreThere n [] = Unit {0}
AreThere n (Out.Passed action e ∷ outs) = (action < n) × AreThere n outs
AreThere n (Out.Lost cause e ∷ outs) = AreThere n outs

push_one : (k action : ℕ) (passed : List (List ℕ)) (others : SiteAction → List ℕ) (tags : List ℕ) → action < length passed → (a : SiteAction)
    → with_passed (spread k passed others) (record { relay = k; action = action }) tags a ≡ spread k (slice_set passed action tags) others a
push_one k action passed others tags l a = go (k == a.relay) (action == a.action) refl refl
  where
    go : (b c : Bool) → (k == a.relay) ≡ b → (action == a.action) ≡ c
        → (if (k == a.relay) && (action == a.action) then tags else if k == a.relay then tags_at passed a.action else others a)
        ≡ (if k == a.relay then tags_at (slice_set passed action tags) a.action else others a)
    go true true e f = rw (e, f) (
        let same : action ≡ a.action = eqb-true action a.action f in
        sym (ap (λ x. tags_at (slice_set passed action tags) x) (sym same) ∙ get_or-set_same passed action tags [] l))
    go true false e f = rw (e, f) (sym (get_or-set_other passed action a.action tags [] (λ x. (same_or action a.action false f).1 refl (sym x))))
    go false c e f = rw e refl

here : (k : ℕ) (x y : List ℕ) → (if k == k then x else y) ≡ x
here k x y = rw (same_self (k == k) k refl) refl

abbrev pub state_with : (ℕ → RelayState) → List Copy → (SiteAction → List ℕ) → List Loss → List Arrival → SiteState
state_with relays copies passed losses arrivals = record { relays = relays; copies = copies; passed = passed; losses = losses; arrivals = arrivals }

-- what a relay lets out, all at once
push_all : (k : ℕ) (relays : ℕ → RelayState) (copies : List Copy) (passed : List (List ℕ)) (others : SiteAction → List ℕ) (losses : List Loss) (arrivals : List Arrival)
    (outs : List Out) → AreThere (length passed) outs
    → push_outs (state_with relays copies (spread k passed others) losses arrivals) k outs
    ≡ state_with relays copies (spread k (passed_by outs passed) others) (losses ++ lost_by k outs) arrivals
push_all k relays copies passed others losses arrivals [] there =
    ap (λ l. state_with relays copies (spread k passed others) l arrivals) (sym (append-nil losses))
push_all k relays copies passed others losses arrivals (Out.Passed action e ∷ outs) there =
    let by : SiteAction = record { relay = k; action = action } in
    let tags = tags_at passed action ++ e.tag ∷ [] in
    let one : with_passed (spread k passed others) by (spread k passed others by ++ e.tag ∷ []) ≡ spread k (slice_set passed action tags) others =
    ap (λ z. with_passed (spread k passed others) by (z ++ e.tag ∷ [])) (here k (tags_at passed action) (others by))
    ∙ fun_ext (push_one k action passed others tags there.0) in
    ap (λ p. push_outs (state_with relays copies p losses arrivals) k outs) one
    ∙ push_all k relays copies (slice_set passed action tags) others losses arrivals outs
    (subst (λ n. AreThere n outs) (sym (length-set passed action tags)) there.1)
push_all k relays copies passed others losses arrivals (Out.Lost cause e ∷ outs) there =
    push_all k relays copies passed others (losses ++ record { copy = e.tag; relay = k; list = e.list; cause = cause } ∷ []) arrivals outs there
    ∙ ap (λ l. state_with relays copies (spread k (passed_by outs passed) others) l arrivals)
    (append_assoc losses (record { copy = e.tag; relay = k; list = e.list; cause = cause } ∷ []) (lost_by k outs))

-- ---- the relays of a site

own_lists : (k : ℕ) (parts : List PartState) (p : PartState) → slice_get parts k ≡ Some p → (a : SiteAction)
    → passed_of parts a ≡ spread k p.passed (passed_of parts) a
own_lists k parts p is a = go (k == a.relay) refl
  where
    go : (b : Bool) → (k == a.relay) ≡ b → passed_of parts a ≡ (if k == a.relay then tags_at p.passed a.action else passed_of parts a)
    go true e = rw e (ap (λ r. passed_in (slice_get parts r) a.action) (sym (eqb-true k a.relay e)) ∙ ap (λ q. passed_in q a.action) is)
    go false e = rw e refl

lists_set : (k : ℕ) (parts : List PartState) (p new : PartState) (passed : List (List ℕ)) → slice_get parts k ≡ Some p → new.passed ≡ passed → (a : SiteAction)
    → spread k passed (passed_of parts) a ≡ passed_of (slice_set parts k new) a
lists_set k parts p new passed is are a = go (k == a.relay) refl
  where
    go : (b : Bool) → (k == a.relay) ≡ b
        → (if k == a.relay then tags_at passed a.action else passed_of parts a) ≡ passed_of (slice_set parts k new) a
    go true e = rw e (sym (ap (λ r. passed_in (slice_get (slice_set parts k new) r) a.action) (sym (eqb-true k a.relay e))
        ∙ ap (λ q. passed_in q a.action) (get_same parts k new p is) ∙ ap (λ z. tags_at z a.action) are))
    go false e = rw e (sym (ap (λ q. passed_in q a.action) (get_other parts k a.relay new ((same_or k a.relay false e).1 refl))))

pub relays_set : (k : ℕ) (parts : List PartState) (p new : PartState) → slice_get parts k ≡ Some p → (r : ℕ)
    → with_relay (relays_of parts) k new.board.state r ≡ relays_of (slice_set parts k new) r
relays_set k parts p new is r = go (k == r) refl
  where
    go : (b : Bool) → (k == r) ≡ b → (if k == r then new.board.state else relays_of parts r) ≡ relays_of (slice_set parts k new) r
    go true e = rw e (sym (ap (λ x. state_of (slice_get (slice_set parts k new) x)) (sym (eqb-true k r e)) ∙ ap state_of (get_same parts k new p is)))
    go false e = rw e (sym (ap state_of (get_other parts k r new ((same_or k r false e).1 refl))))

boards_set : (k : ℕ) (parts : List PartState) (p new : PartState) → slice_get parts k ≡ Some p → (r : ℕ)
    → with_board (boards_of parts) k new.board r ≡ boards_of (slice_set parts k new) r
boards_set k parts p new is r = go (k == r) refl
  where
    go : (b : Bool) → (k == r) ≡ b → (if k == r then new.board else boards_of parts r) ≡ boards_of (slice_set parts k new) r
    go true e = rw e (sym (ap (λ x. board_of (slice_get (slice_set parts k new) x)) (sym (eqb-true k r e)) ∙ ap board_of (get_same parts k new p is)))
    go false e = rw e (sym (ap board_of (get_other parts k r new ((same_or k r false e).1 refl))))

pub boards_stepped : (k : ℕ) (parts : List PartState) (p new : PartState) (event : Event) (outs : List Out) → slice_get parts k ≡ Some p
    → new.board ≡ stepped p.board event new.board.state outs
    → boards_of (slice_set parts k new) ≡ with_board (boards_of parts) k (stepped (boards_of parts k) event new.board.state outs)
boards_stepped k parts p new event outs is goes = sym (
    ap (λ o. with_board (boards_of parts) k (stepped (board_of o) event new.board.state outs)) is
    ∙ ap (with_board (boards_of parts) k) (sym goes) ∙ fun_ext (boards_set k parts p new is))

-- what a relay lets out is of actions that are there
if_there : (n action : ℕ) (took : Bool) (e : Entry) → action < n → AreThere n (if_so took (Out.Passed action e))
if_there n action true e l = (l, tt)
if_there n action false e l = tt

if_lost : (n : ℕ) (lost : Bool) (cause : Cause) (e : Entry) → AreThere n (if_so lost (Out.Lost cause e))
if_lost n true cause e = tt
if_lost n false cause e = tt

all_lost : (n : ℕ) (cause : Cause) (es : List Entry) → AreThere n (map (Out.Lost cause) es)
all_lost n cause [] = tt
all_lost n cause (e ∷ es) = all_lost n cause es

outs_there : (plan : Plan) (old : RelayState) (event : Event) (new : RelayState) (outs : List Out) → IsWhole plan → Step plan old event new outs
    → AreThere (length plan.actions) outs
outs_there plan old (Event.Take i h node) new outs whole (lost, takes, is) = subst (AreThere (length plan.actions)) (sym is) (if_lost _ lost Cause.Take node)
outs_there plan old (Event.Enter i h) new outs whole (node, enters, is) = subst (AreThere (length plan.actions)) (sym is) tt
outs_there plan old (Event.Expire i h) new outs whole (node, expires, is) = subst (AreThere (length plan.actions)) (sym is) tt
outs_there plan old (Event.Grab w) new outs whole (lost, grabs, is) = subst (AreThere (length plan.actions)) (sym is) (all_lost _ Cause.Grab lost)
outs_there plan old (Event.Done w) new outs whole (a, e, settles, is) =
    subst (AreThere (length plan.actions)) (sym is) (run_there plan old w a whole settles.job, tt)
outs_there plan old (Event.Fail w took) new outs whole (a, e, fails, is) =
    subst (AreThere (length plan.actions)) (sym is) (if_there _ a took e (run_there plan old w a whole fails.job))
outs_there plan old (Event.GiveUp w took) new outs whole (a, e, gives, is) =
    subst (AreThere (length plan.actions)) (sym is) (if_there _ a took e (run_there plan old w a whole gives.job))
outs_there plan old (Event.Post w) new outs whole (l, node, lost, posts, is) =
    subst (AreThere (length plan.actions)) (sym is) (if_lost _ lost (Cause.Post l) posts.job.entry)
outs_there plan old (Event.PostLost w no_memory) new outs whole (l, e, loses, is) = subst (AreThere (length plan.actions)) (sym is) tt

-- ---- the step

after_step : (parts : List PartState) (copies : List Copy) (losses now : List Loss) (arrivals : List Arrival) (k : ℕ) (p new : PartState) (outs : List Out)
    → slice_get parts k ≡ Some p → AreThere (length p.passed) outs → new.passed ≡ passed_by outs p.passed → now ≡ losses ++ lost_by k outs
    → site_state (slice_set parts k new) copies now arrivals
    ≡ push_outs (record (site_state parts copies losses arrivals) { relays = with_relay (relays_of parts) k new.board.state }) k outs
after_step parts copies losses now arrivals k p new outs is there passed lost = sym (
    ap (λ x. push_outs (state_with (with_relay (relays_of parts) k new.board.state) copies x losses arrivals) k outs) (fun_ext (own_lists k parts p is))
    ∙ push_all k (with_relay (relays_of parts) k new.board.state) copies p.passed (passed_of parts) losses arrivals outs there
    ∙ ap (λ x. state_with x copies (spread k (passed_by outs p.passed) (passed_of parts)) (losses ++ lost_by k outs) arrivals) (fun_ext (relays_set k parts p new is))
    ∙ ap (λ x. state_with (relays_of (slice_set parts k new)) copies x (losses ++ lost_by k outs) arrivals)
    (fun_ext (lists_set k parts p new (passed_by outs p.passed) is passed))
    ∙ ap (λ x. state_with (relays_of (slice_set parts k new)) copies (passed_of (slice_set parts k new)) x arrivals) (sym lost))

pub relay_steps : (site : Site) (parts : List PartState) (copies : List Copy) (losses now : List Loss) (arrivals : List Arrival) (k : ℕ) (p new : PartState) (event : Event)
    → slice_get parts k ≡ Some p → plan_at site k ≡ p.board.plan → HasLists p → IsWhole p.board.plan → Makes k p losses event new now
    → RelaySteps site (site_state parts copies losses arrivals) k event (site_state (slice_set parts k new) copies now arrivals)
relay_steps site parts copies losses now arrivals k p new event is plan lists whole makes = record {
  state = new.board.state;
  outs = makes.outs;
  step = subst (λ x. Step x (relays_of parts k) event new.board.state makes.outs) (sym plan)
      (subst (λ x. Step p.board.plan (state_of x) event new.board.state makes.outs) (sym is) makes.goes.0);
  after = after_step parts copies losses now arrivals k p new makes.outs is
      (subst (λ n. AreThere n makes.outs) (sym lists) (outs_there p.board.plan p.board.state event new.board.state makes.outs whole makes.goes.0))
      makes.passed makes.losses;
}

-- ---- what isn't a step

-- a relay that isn't there makes no step
pub no_step : (old : RelayState) (e : Event) (new : RelayState) (outs : List Out) → Step no_plan old e new outs → ⊥
no_step old (Event.Take i h node) new outs (lost, takes, is) = let l = takes.there.0 in omega (arith, l)
no_step old (Event.Enter i h) new outs (node, enters, is) = let l = enters.leaves.there.0 in omega (arith, l)
no_step old (Event.Expire i h) new outs (node, expires, is) = let l = expires.leaves.there.0 in omega (arith, l)
no_step old (Event.Grab w) new outs (lost, grabs, is) = let l = grabs.there in omega (arith, l)
no_step old (Event.Done w) new outs (a, e, does, is) = let l = does.job.there in omega (arith, l)
no_step old (Event.Fail w took) new outs (a, e, fails, is) = let l = fails.job.there in omega (arith, l)
no_step old (Event.GiveUp w took) new outs (a, e, gives, is) = let l = gives.job.there in omega (arith, l)
no_step old (Event.Post w) new outs (l, node, lost, posts, is) = let m = posts.job.there in omega (arith, m)
no_step old (Event.PostLost w no_memory) new outs (l, e, loses, is) = let m = loses.job.there in omega (arith, m)

pub not_there : (site : Site) (parts : List PartState) (copies : List Copy) (losses : List Loss) (arrivals : List Arrival) (k : ℕ) (event : Event)
    → AreOf site parts → slice_get parts k ≡ None → (new : SiteState) → RelaySteps site (site_state parts copies losses arrivals) k event new → ⊥
not_there site parts copies losses arrivals k event of none new steps =
    no_step (relays_of parts k) event steps.state steps.outs
    (subst (λ x. Step x (relays_of parts k) event steps.state steps.outs) (of k ∙ ap plan_of none) steps.step)

-- an event inside a relay takes nothing
pub no_take : (event : RelayEvent) → IsTake (step_of event) → ⊥
no_take (event.Enter i h) t = t
no_take (event.Expire i h) t = t
no_take (event.Grab w) t = t
no_take (event.Done w) t = t
no_take (event.Fail w took) t = t
no_take (event.GiveUp w took) t = t
no_take (event.Post w) t = t
no_take (event.PostLost w cause) t = t

pub inside_refused : (why : Illegal) (site : Site) (parts : List PartState) (copies : List Copy) (losses : List Loss) (arrivals : List Arrival) (k : ℕ) (p : PartState)
    (event : RelayEvent) → AreOf site parts → slice_get parts k ≡ Some p → IsIllegal why p.board (step_of event)
    → IsIllegalAt why site (holding parts copies losses arrivals) (SiteEvent.Inside k (step_of event))
inside_refused illegal.NotAStep site parts copies losses arrivals k p event of is none = λ new steps.
    none steps.1.state steps.1.outs
    (subst (λ x. Step p.board.plan (state_of x) (step_of event) steps.1.state steps.1.outs) is
    (subst (λ x. Step x (relays_of parts k) (step_of event) steps.1.state steps.1.outs) (of k ∙ ap plan_of is) steps.1.step))
inside_refused illegal.NoMemory site parts copies losses arrivals k p event of is none = tt
inside_refused illegal.TotalsFull site parts copies losses arrivals k p event of is (state, outs, step, full) = (
  push_outs (record (site_state parts copies losses arrivals) { relays = with_relay (relays_of parts) k state }) k outs,
  (
    no_take event,
    record {
      state = state;
      outs = outs;
      step = subst (λ x. Step x (relays_of parts k) (step_of event) state outs) (sym (of k ∙ ap plan_of is))
          (subst (λ x. Step p.board.plan (state_of x) (step_of event) state outs) (sym is) step);
      after = refl;
    },
  ),
  subst (λ x. IsTooFull (stepped (board_of x) (step_of event) state outs)) (sym is) full,
)

pub inside_made : (site : Site) (parts : List PartState) (copies : List Copy) (losses now : List Loss) (arrivals : List Arrival) (k : ℕ) (p new : PartState) (event : RelayEvent)
    → AreOf site parts → slice_get parts k ≡ Some p → HasLists p → IsWhole p.board.plan → Makes k p losses (step_of event) new now
    → Applies site (holding parts copies losses arrivals) (SiteEvent.Inside k (step_of event)) (holding (slice_set parts k new) copies now arrivals)
unfolding relay_steps
inside_made site parts copies losses now arrivals k p new event of is lists whole makes = (
  (no_take event, relay_steps site parts copies losses now arrivals k p new (step_of event) is (of k ∙ ap plan_of is) lists whole makes),
  boards_stepped k parts p new (step_of event) makes.outs is makes.goes.1,
)

-- ---- what a step keeps

passed_length : (outs : List Out) (passed : List (List ℕ)) → length (passed_by outs passed) ≡ length passed
passed_length [] passed = refl
passed_length (Out.Passed action e ∷ outs) passed =
    passed_length outs (slice_set passed action (tags_at passed action ++ e.tag ∷ [])) ∙ length-set passed action (tags_at passed action ++ e.tag ∷ [])
passed_length (Out.Lost cause e ∷ outs) passed = passed_length outs passed

pub lists_kept : (k : ℕ) (old new : PartState) (event : Event) (before after : List Loss) → HasLists old → Makes k old before event new after → HasLists new
lists_kept k old new event before after lists makes =
    ap length makes.passed ∙ passed_length makes.outs old.passed ∙ lists ∙ ap (λ (b : BoardState). length b.plan.actions) (sym makes.goes.1)

pub lists_after : {T E : Type 0} (C : Type 0) (r : Result T E) (k : ℕ) (old new : BoardState) (xs ys : List Tags) (event : Event) (before after : List Loss)
    → length xs ≡ length old.plan.actions → OnOk r (Makes k (part old (items_of xs)) before event (part new (items_of ys)) after)
    → OnErr r ((new ≡ old) × (items_of ys ≡ items_of xs) × C) → length ys ≡ length new.plan.actions
lists_after C (Ok x) k old new xs ys event before after lists makes same =
    sym (length-map ys (λ (q : Tags). q.items))
    ∙ lists_kept k (part old (items_of xs)) (part new (items_of ys)) event before after (length-map xs (λ (q : Tags). q.items) ∙ lists) makes
lists_after C (Err e) k old new xs ys event before after lists makes same =
    sym (length-map ys (λ (q : Tags). q.items)) ∙ ap length same.1 ∙ length-map xs (λ (q : Tags). q.items) ∙ lists
    ∙ ap (λ (b : BoardState). length b.plan.actions) (sym same.0)

pub plan_after : {T E : Type 0} (C : Type 0) (r : Result T E) (k : ℕ) (old new : BoardState) (before after : List Loss) (i h : ℕ) (m : Said) (t : ℕ)
    → OnOk r (TakesMessage k old before i h m t new after) → OnErr r ((new ≡ old) × C) → new.plan ≡ old.plan
plan_after C (Ok x) k old new before after i h m t (node, a, b, makes) same = ap (λ (b : BoardState). b.plan) (makes []).goes.1
plan_after C (Err e) k old new before after i h m t makes same = ap (λ (b : BoardState). b.plan) same.0

-- ---- plans

pub plans_set : (k : ℕ) (parts : List PartState) (p new : PartState) → slice_get parts k ≡ Some p → new.board.plan ≡ p.board.plan
    → HaveSamePlans parts (slice_set parts k new)
plans_set k parts p new is same = λ r. go r (k == r) refl
  where
    go : (r : ℕ) (b : Bool) → (k == r) ≡ b → plan_of (slice_get (slice_set parts k new) r) ≡ plan_of (slice_get parts r)
    go r true e = ap (λ x. plan_of (slice_get (slice_set parts k new) x)) (sym (eqb-true k r e)) ∙ ap plan_of (get_same parts k new p is) ∙ same
        ∙ sym (ap plan_of is) ∙ ap (λ x. plan_of (slice_get parts x)) (eqb-true k r e)
    go r false e = ap plan_of (get_other parts k r new ((same_or k r false e).1 refl))
