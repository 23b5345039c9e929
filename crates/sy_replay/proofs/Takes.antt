-- Takes: what a relay's board does with an entry, and what a link loses, make a step of the site.
use Rattle.std.proofs.Common.{◌≡◌, ℕ, ◌<◌, ◌+◌, ◌==◌, Bool, true, false, if◌then◌else◌, List, [], ◌∷◌, ◌++◌, length, Some, None, refl, sym, ap, subst, arith, ◌∙◌, append-nil, drop, get_or, take}
use Rattle.std.specs.Prelude.{◌↔◌, slice_get, slice_set, ◌&&◌, Option, IsSome, OnSome, Result, Ok, Err, OnErr, OnOk}
use Rattle.std.specs.List.{remove}
use Rattle.std.specs.VecDeque.{deque_len}
use Rattle.std.proofs.Math.Path.{fun_ext}
use Rattle.std.proofs.lemmas.List.{get_or-set_same, get_or-set_other, length-map}
use Rattle.std.proofs.lemmas.Bool.{eqb-true}
use Rattle.sy_wire.specs.Messages.{Said}
use Rattle.sy_chain.specs.Entries.{Entry}
use Rattle.sy_rules.specs.PlanValue.{Plan}
use Rattle.sy_board.specs.relay.Boards.{BoardState, IsTooFull, stepped}
use Rattle.sy_board.specs.relay.Cells.{RelayState}
use Rattle.sy_board.specs.relay.Steps.{Event, Out, Step}
use Rattle.sy_site.specs.declared.site.SiteAction.{SiteAction}
use Rattle.sy_site.specs.declared.site.SiteInput.{SiteInput}
use Rattle.sy_site.specs.Sites.{Site, plan_at}
use Rattle.sy_site.specs.machine.States.{Arrival, Copy, Loss, SiteState, off_link, push_outs, taken_by, with_passed, with_relay}
use Rattle.sy_site.specs.machine.Steps.{SiteEvent, TakesCopy, TakesFrom}
use Rattle.sy_replay.specs.declared.event.Illegal.{Illegal}
use Rattle.sy_replay.specs.declared.event.Illegal.TheVariants as illegal
use Rattle.sy_replay.specs.Parts.{PartState, tags_at}
use Rattle.sy_replay.specs.internal.Parts.{IsNoTake, Makes, Tags, TakesMessageAt, items_of, lost_by, passed_by}
use Rattle.sy_replay.specs.States.{Applies, Contents, IsIllegalAt, board_of, boards_of, holding, passed_in, passed_of, relays_of, site_state, state_in, state_of}
use Rattle.sy_replay.specs.internal.States.{AreOf, plan_of}
use Rattle.sy_replay.specs.internal.Takes.{IsNoEntry, IsOnLink, IsOnNoLink, Leaves, TakesEntry, without}
use Rattle.sy_replay.proofs.Sites.{boards_stepped, get_other, get_same, no_step, relays_set, same_or, state_with}

-- ---- a relay's board takes an entry

-- nothing of it comes to a device
nothing_passed : (plan : Plan) (old : RelayState) (i h : ℕ) (node : Entry) (new : RelayState) (outs : List Out) (passed : List (List ℕ))
    → Step plan old (Event.Take i h node) new outs → passed_by outs passed ≡ passed
nothing_passed plan old i h node new outs passed (false, takes, is) = ap (λ os. passed_by os passed) is
nothing_passed plan old i h node new outs passed (true, takes, is) = ap (λ os. passed_by os passed) is

pub lists_same : (k : ℕ) (parts : List PartState) (p new : PartState) → slice_get parts k ≡ Some p → new.passed ≡ p.passed → (a : SiteAction)
    → passed_of (slice_set parts k new) a ≡ passed_of parts a
lists_same k parts p new is same a = go (k == a.relay) refl
  where
    go : (b : Bool) → (k == a.relay) ≡ b → passed_of (slice_set parts k new) a ≡ passed_of parts a
    go true e = ap (λ r. passed_in (slice_get (slice_set parts k new) r) a.action) (sym (eqb-true k a.relay e))
        ∙ ap (λ q. passed_in q a.action) (get_same parts k new p is) ∙ ap (λ z. tags_at z a.action) same
        ∙ sym (ap (λ q. passed_in q a.action) is) ∙ ap (λ r. passed_in (slice_get parts r) a.action) (eqb-true k a.relay e)
    go false e = ap (λ q. passed_in q a.action) (get_other parts k a.relay new ((same_or k a.relay false e).1 refl))

pub entry_taken : (parts : List PartState) (before after : List Loss) (to : SiteInput) (hand : ℕ) (message : Said) (tag : ℕ) (p new : PartState)
    → slice_get parts to.relay ≡ Some p → TakesMessageAt to.relay p before to.input hand message tag new after
    → TakesEntry parts before to hand message tag (slice_set parts to.relay new) after
entry_taken parts before after to hand message tag p new is (node, its_message, its_tag, makes) = record {
  node = node;
  its_message = its_message;
  its_tag = its_tag;
  state = new.board.state;
  outs = makes.outs;
  step = subst (λ x. Step (plan_of x) (state_of x) (Event.Take to.input hand node) new.board.state makes.outs) (sym is) makes.goes.0;
  relays = sym (fun_ext (relays_set to.relay parts p new is));
  boards = boards_stepped to.relay parts p new (Event.Take to.input hand node) makes.outs is makes.goes.1;
  passed = fun_ext (lists_same to.relay parts p new is
      (makes.passed ∙ nothing_passed p.board.plan p.board.state to.input hand node new.board.state makes.outs p.passed makes.goes.0));
  losses = makes.losses;
}

pub entry_refused : (why : Illegal) (parts : List PartState) (to : SiteInput) (hand : ℕ) (message : Said) (tag : ℕ) (p : PartState)
    → slice_get parts to.relay ≡ Some p → IsNoTake why p.board to.input hand message tag → IsNoEntry why parts to hand message tag
entry_refused illegal.NotAStep parts to hand message tag p is none = λ node m t state outs step.
    none node m t state outs (subst (λ x. Step (plan_of x) (state_of x) (Event.Take to.input hand node) state outs) is step)
entry_refused illegal.NoMemory parts to hand message tag p is none = tt
entry_refused illegal.TotalsFull parts to hand message tag p is (node, m, t, (state, outs, step, full)) = (
  node,
  m,
  t,
  state,
  outs,
  subst (λ x. Step (plan_of x) (state_of x) (Event.Take to.input hand node) state outs) (sym is) step,
  subst (λ x. IsTooFull (stepped (board_of x) (Event.Take to.input hand node) state outs)) (sym is) full,
)

pub no_relay : (parts : List PartState) (to : SiteInput) (hand : ℕ) (message : Said) (tag : ℕ) → slice_get parts to.relay ≡ None
    → IsNoEntry illegal.NotAStep parts to hand message tag
no_relay parts to hand message tag none = λ node m t state outs step.
    no_step (relays_of parts to.relay) (Event.Take to.input hand node) state outs
    (subst (λ x. Step (plan_of x) (relays_of parts to.relay) (Event.Take to.input hand node) state outs) none step)

pub plan_taken : {T E : Type 0} (C : Type 0) (r : Result T E) (k : ℕ) (old new : PartState) (before after : List Loss) (i h : ℕ) (m : Said) (t : ℕ)
    → OnOk r (TakesMessageAt k old before i h m t new after) → OnErr r ((new ≡ old) × C) → new.board.plan ≡ old.board.plan
plan_taken C (Ok x) k old new before after i h m t (node, a, b, makes) same = ap (λ (x : BoardState). x.plan) makes.goes.1
plan_taken C (Err e) k old new before after i h m t makes same = ap (λ (p : PartState). p.board.plan) same.0

pub plan_made : {T E : Type 0} (C : Type 0) (r : Result T E) (k : ℕ) (old new : PartState) (event : Event) (before after : List Loss)
    → OnOk r (Makes k old before event new after) → OnErr r ((new ≡ old) × C) → new.board.plan ≡ old.board.plan
plan_made C (Ok x) k old new event before after makes same = ap (λ (b : BoardState). b.plan) makes.goes.1
plan_made C (Err e) k old new event before after makes same = ap (λ (p : PartState). p.board.plan) same.0

-- ---- a link loses what stands at a place

pub tags_there : (xs : List (List ℕ)) (k n : ℕ) → n < length (tags_at xs k) → k < length xs
tags_there [] k n l = absurd (omega (arith, l))
tags_there (x ∷ xs) ℕ.zero n l = omega (arith)
tags_there (x ∷ xs) (ℕ.suc k) n l = let m = tags_there xs k n l in omega (arith, m)

pub items_there : (xs : List Tags) (k n : ℕ) → n < length (tags_at (items_of xs) k) → k < length xs
items_there xs k n l = let m = tags_there (items_of xs) k n l in let same = length-map xs (λ (q : Tags). q.items) in omega (arith, m, same)

no_tag : IsSome {T = ℕ} None → ⊥
no_tag some = cc

-- what stands at a place is gone from a queue that has it
pub gone_from : (taken : Option ℕ) (old new : Tags) (place : ℕ) → IsSome taken ↔ (place < deque_len old) → place < length old.items
    → OnSome taken (new.items ≡ remove old.items place) → new.items ≡ without old.items place
gone_from None old new place is there gone = let same = old.ok.0 in absurd (no_tag (is.1 (omega (arith, there, same))))
gone_from (Some tag) old new place is there gone =
    let same : ℕ.suc place ≡ place + 1 = omega arith in gone ∙ ap (λ n. take place old.items ++ drop n old.items) same

pub relay_there : (parts : List PartState) (link : SiteAction) (place : ℕ) → place < length (passed_of parts link) → link.relay < length parts
relay_there parts link place l = go parts link.relay l
  where
    go : (ps : List PartState) (k : ℕ) → place < length (passed_in (slice_get ps k) link.action) → k < length ps
    go [] k l = absurd (omega (arith, l))
    go (p ∷ ps) ℕ.zero l = omega (arith)
    go (p ∷ ps) (ℕ.suc k) l = let m = go ps k l in omega (arith, m)

pub get_there : {A : Type 0} (xs : List A) (k : ℕ) (x d : A) → k < length xs → x ≡ get_or xs k d → slice_get xs k ≡ Some x
get_there [] k x d l e = absurd (omega (arith, l))
get_there (y ∷ ys) ℕ.zero x d l e = ap Some (sym e)
get_there (y ∷ ys) (ℕ.suc k) x d l e = get_there ys k x d (omega (arith, l)) e

pub link_shorter : (parts : List PartState) (link : SiteAction) (place : ℕ) (p new : PartState) → slice_get parts link.relay ≡ Some p
    → place < length (tags_at p.passed link.action) → new.passed ≡ slice_set p.passed link.action (without (tags_at p.passed link.action) place)
    → (a : SiteAction) → passed_of (slice_set parts link.relay new) a ≡ with_passed (passed_of parts) link (without (passed_of parts link) place) a
link_shorter parts link place p new is there less a = go (link.relay == a.relay) (link.action == a.action) refl refl
  where
    own : passed_of parts link ≡ tags_at p.passed link.action
    own = ap (λ q. passed_in q link.action) is

    found : link.relay ≡ a.relay → passed_of (slice_set parts link.relay new) a ≡ tags_at (slice_set p.passed link.action (without (tags_at p.passed link.action) place)) a.action
    found e = ap (λ r. passed_in (slice_get (slice_set parts link.relay new) r) a.action) (sym e)
        ∙ ap (λ q. passed_in q a.action) (get_same parts link.relay new p is) ∙ ap (λ z. tags_at z a.action) less

    go : (b c : Bool) → (link.relay == a.relay) ≡ b → (link.action == a.action) ≡ c
        → passed_of (slice_set parts link.relay new) a
        ≡ (if (link.relay == a.relay) && (link.action == a.action) then without (passed_of parts link) place else passed_of parts a)
    go true true e f = rw (e, f) (found (eqb-true link.relay a.relay e)
        ∙ ap (λ x. tags_at (slice_set p.passed link.action (without (tags_at p.passed link.action) place)) x) (sym (eqb-true link.action a.action f))
        ∙ get_or-set_same p.passed link.action (without (tags_at p.passed link.action) place) [] (tags_there p.passed link.action place there)
        ∙ sym (ap (λ x. without x place) own))
    go true false e f = rw (e, f) (found (eqb-true link.relay a.relay e)
        ∙ get_or-set_other p.passed link.action a.action (without (tags_at p.passed link.action) place) []
        (λ x. (same_or link.action a.action false f).1 refl (sym x))
        ∙ sym (ap (λ q. passed_in q a.action) is) ∙ ap (λ r. passed_in (slice_get parts r) a.action) (eqb-true link.relay a.relay e))
    go false c e f = rw e (ap (λ q. passed_in q a.action) (get_other parts link.relay a.relay new ((same_or link.relay a.relay false e).1 refl)))

pub relays_same : (k : ℕ) (parts : List PartState) (p new : PartState) → slice_get parts k ≡ Some p → new.board ≡ p.board → (r : ℕ)
    → relays_of (slice_set parts k new) r ≡ relays_of parts r
relays_same k parts p new is same r = go (k == r) refl
  where
    go : (b : Bool) → (k == r) ≡ b → relays_of (slice_set parts k new) r ≡ relays_of parts r
    go true e = ap (λ x. state_of (slice_get (slice_set parts k new) x)) (sym (eqb-true k r e)) ∙ ap state_of (get_same parts k new p is)
        ∙ ap (λ b. b.state) same ∙ sym (ap state_of is) ∙ ap (λ x. state_of (slice_get parts x)) (eqb-true k r e)
    go false e = ap state_of (get_other parts k r new ((same_or k r false e).1 refl))

boards_same : (k : ℕ) (parts : List PartState) (p new : PartState) → slice_get parts k ≡ Some p → new.board ≡ p.board → (r : ℕ)
    → boards_of (slice_set parts k new) r ≡ boards_of parts r
boards_same k parts p new is same r = go (k == r) refl
  where
    go : (b : Bool) → (k == r) ≡ b → boards_of (slice_set parts k new) r ≡ boards_of parts r
    go true e = ap (λ x. board_of (slice_get (slice_set parts k new) x)) (sym (eqb-true k r e)) ∙ ap board_of (get_same parts k new p is)
        ∙ same ∙ sym (ap board_of is) ∙ ap (λ x. board_of (slice_get parts x)) (eqb-true k r e)
    go false e = ap board_of (get_other parts k r new ((same_or k r false e).1 refl))

pub left : (parts : List PartState) (link : SiteAction) (place : ℕ) (p new : PartState) → slice_get parts link.relay ≡ Some p
    → place < length (passed_of parts link) → new.board ≡ p.board
    → new.passed ≡ slice_set p.passed link.action (without (tags_at p.passed link.action) place)
    → Leaves parts link place (slice_set parts link.relay new)
left parts link place p new is there board less = record {
  relays = fun_ext (relays_same link.relay parts p new is board);
  boards = fun_ext (boards_same link.relay parts p new is board);
  passed = fun_ext (link_shorter parts link place p new is (subst (λ q. place < length (passed_in q link.action)) is there) less);
}

-- ---- the step of the site

push_lost : (k : ℕ) (plan : Plan) (old : RelayState) (i h : ℕ) (node : Entry) (new : RelayState) (relays : ℕ → RelayState) (copies : List Copy)
    (passed : SiteAction → List ℕ) (losses : List Loss) (arrivals : List Arrival) (outs : List Out) → Step plan old (Event.Take i h node) new outs
    → push_outs (state_with relays copies passed losses arrivals) k outs ≡ state_with relays copies passed (losses ++ lost_by k outs) arrivals
push_lost k plan old i h node new relays copies passed losses arrivals outs (false, takes, is) =
    ap (push_outs (state_with relays copies passed losses arrivals) k) is
    ∙ ap (λ l. state_with relays copies passed l arrivals) (sym (append-nil losses) ∙ ap (λ os. losses ++ lost_by k os) (sym is))
push_lost k plan old i h node new relays copies passed losses arrivals outs (true, takes, is) =
    ap (push_outs (state_with relays copies passed losses arrivals) k) is
    ∙ ap (λ os. state_with relays copies passed (losses ++ lost_by k os) arrivals) (sym is)

-- whatever copies, links and files the site has
take_step : (site : Site) (parts : List PartState) (before after : List Loss) (to : SiteInput) (hand : ℕ) (message : Said) (tag : ℕ) (new : List PartState)
    → AreOf site parts → (t : TakesEntry parts before to hand message tag new after)
    → Step (plan_at site to.relay) (relays_of parts to.relay) (Event.Take to.input hand t.node) t.state t.outs
take_step site parts before after to hand message tag new of t =
    subst (λ plan. Step plan (relays_of parts to.relay) (Event.Take to.input hand t.node) t.state t.outs) (sym (of to.relay)) t.step

take_after : (parts : List PartState) (copies : List Copy) (passed : SiteAction → List ℕ) (before after : List Loss) (arrivals : List Arrival)
    (to : SiteInput) (hand : ℕ) (message : Said) (tag : ℕ) (new : List PartState) → (t : TakesEntry parts before to hand message tag new after)
    → state_with (relays_of new) copies passed after arrivals
    ≡ push_outs (state_with (with_relay (relays_of parts) to.relay t.state) copies passed before arrivals) to.relay t.outs
take_after parts copies passed before after arrivals to hand message tag new t =
    ap (λ r. state_with r copies passed after arrivals) t.relays
    ∙ ap (λ l. state_with (with_relay (relays_of parts) to.relay t.state) copies passed l arrivals) t.losses
    ∙ sym (push_lost to.relay (plan_of (slice_get parts to.relay)) (relays_of parts to.relay) to.input hand t.node t.state
    (with_relay (relays_of parts) to.relay t.state) copies passed before arrivals t.outs t.step)

-- a message from outside
abbrev pub arrival : SiteInput → Said → Arrival
arrival to message = record { message = message; origin = to }

abbrev pub first : SiteInput → Said → ℕ → Copy
first to message number = taken_by to.relay (record { number = number; message = message; origin = to; trail = []; flag = false })

pub new_comes : (site : Site) (parts : List PartState) (copies : List Copy) (before after : List Loss) (arrivals : List Arrival) (to : SiteInput) (hand : ℕ)
    (message : Said) (new : List PartState) → AreOf site parts → TakesEntry parts before to hand message (length copies) new after
    → Applies site (holding parts copies before arrivals) (SiteEvent.TakeNew to hand message)
    (holding new (copies ++ first to message (length arrivals) ∷ []) after (arrivals ++ arrival to message ∷ []))
new_comes site parts copies before after arrivals to hand message new of t = (
  record {
    node = t.node;
    message = t.its_message;
    tag = t.its_tag;
    step = record {
      state = t.state;
      outs = t.outs;
      step = take_step site parts before after to hand message (length copies) new of t;
      after = ap (λ p. state_with (relays_of new) copied p after arrived) t.passed
          ∙ take_after parts copied (passed_of parts) before after arrived to hand message (length copies) new t;
    };
  },
  t.boards,
) where
  copied : List Copy
  copied = copies ++ first to message (length arrivals) ∷ []

  arrived : List Arrival
  arrived = arrivals ++ arrival to message ∷ []

-- why a copy isn't taken, by this board
abbrev NoCopy : Illegal → BoardState → Site → SiteState → SiteInput → ℕ → Copy → Type 0
NoCopy illegal.NotAStep board site old to hand copy = (new : SiteState) → TakesCopy site old to hand copy new → ⊥
NoCopy illegal.NoMemory board site old to hand copy = Unit {0}
NoCopy illegal.TotalsFull board site old to hand copy = (new : SiteState) × (takes : TakesCopy site old to hand copy new)
    × IsTooFull (stepped board (Event.Take to.input hand takes.node) takes.step.state takes.step.outs)

-- whatever links and files the site has
copy_refused : (why : Illegal) (site : Site) (parts : List PartState) (copies : List Copy) (passed : SiteAction → List ℕ) (losses : List Loss) (arrivals : List Arrival)
    (to : SiteInput) (hand : ℕ) (copy : Copy) → AreOf site parts → IsNoEntry why parts to hand copy.message (length copies)
    → NoCopy why (boards_of parts to.relay) site (state_with (relays_of parts) copies passed losses arrivals) to hand copy
copy_refused illegal.NotAStep site parts copies passed losses arrivals to hand copy of none = λ new takes.
    none takes.node takes.message takes.tag takes.step.state takes.step.outs
    (subst (λ plan. Step plan (relays_of parts to.relay) (Event.Take to.input hand takes.node) takes.step.state takes.step.outs) (of to.relay) takes.step.step)
copy_refused illegal.NoMemory site parts copies passed losses arrivals to hand copy of none = tt
copy_refused illegal.TotalsFull site parts copies passed losses arrivals to hand copy of (node, m, t, state, outs, step, full) = (
  push_outs (state_with (with_relay (relays_of parts) to.relay state) (copies ++ taken_by to.relay copy ∷ []) passed losses arrivals) to.relay outs,
  record {
    node = node;
    message = m;
    tag = t;
    step = record {
      state = state;
      outs = outs;
      step = subst (λ plan. Step plan (relays_of parts to.relay) (Event.Take to.input hand node) state outs) (sym (of to.relay)) step;
      after = refl;
    };
  },
  full,
)

pub none_comes : (why : Illegal) (site : Site) (parts : List PartState) (copies : List Copy) (losses : List Loss) (arrivals : List Arrival)
    (to : SiteInput) (hand : ℕ) (message : Said) → AreOf site parts → IsNoEntry why parts to hand message (length copies)
    → IsIllegalAt why site (holding parts copies losses arrivals) (SiteEvent.TakeNew to hand message)
none_comes illegal.NotAStep site parts copies losses arrivals to hand message of none =
    copy_refused illegal.NotAStep site parts copies (passed_of parts) losses (arrivals ++ arrival to message ∷ []) to hand
    (record { number = length arrivals; message = message; origin = to; trail = []; flag = false }) of none
none_comes illegal.NoMemory site parts copies losses arrivals to hand message of none = tt
none_comes illegal.TotalsFull site parts copies losses arrivals to hand message of none =
    copy_refused illegal.TotalsFull site parts copies (passed_of parts) losses (arrivals ++ arrival to message ∷ []) to hand
    (record { number = length arrivals; message = message; origin = to; trail = []; flag = false }) of none

-- ---- from a link

split : (tags : List ℕ) (place tag : ℕ) → slice_get tags place ≡ Some tag
    → (tags ≡ take place tags ++ tag ∷ drop (place + 1) tags) × (length (take place tags) ≡ place)
split [] place tag is = absurd (cc)
split (t ∷ tags) ℕ.zero tag is = (ap (λ (x : ℕ). x ∷ tags) (cc), refl)
split (t ∷ tags) (ℕ.suc place) tag is =
    let rest = split tags place tag is in
    let on : ℕ.suc place + 1 ≡ ℕ.suc (place + 1) = omega arith in
    (ap (λ xs. t ∷ xs) rest.0 ∙ ap (λ n. t ∷ take place tags ++ tag ∷ drop n (t ∷ tags)) (sym on), ap ℕ.suc rest.1)

stands_there : (before : List ℕ) (tag : ℕ) (behind : List ℕ) → slice_get (before ++ tag ∷ behind) (length before) ≡ Some tag
stands_there [] tag behind = refl
stands_there (x ∷ before) tag behind = stands_there before tag behind

-- what a take from a link needs there
on_link : (site : Site) (contents : Contents) (to : SiteInput) (hand : ℕ) (link : SiteAction) (place : ℕ) (new : SiteState)
    → (from : TakesFrom site (state_in contents) to hand link place new) → IsOnLink site contents to link place from.copy
on_link site contents to hand link place new from = record {
  tag = from.tag;
  leads = from.leads;
  stands = ap (λ xs. slice_get xs place) from.on_link ∙ ap (slice_get (from.before ++ from.tag ∷ from.behind)) (sym from.stands)
      ∙ stands_there from.before from.tag from.behind;
  is = from.is;
}

some_one : {A : Type 0} {a b : A} → Some a ≡ Some b → a ≡ b
some_one e = cc

one_copy : (site : Site) (contents : Contents) (to : SiteInput) (link : SiteAction) (place : ℕ) (a b : Copy) → IsOnLink site contents to link place a
    → IsOnLink site contents to link place b → a ≡ b
one_copy site contents to link place a b first second =
    let tag : first.tag ≡ second.tag = some_one (sym first.stands ∙ second.stands) in
    some_one (sym first.is ∙ ap (slice_get contents.copies) tag ∙ second.is)

pub none_there : (site : Site) (contents : Contents) (to : SiteInput) (hand : ℕ) (link : SiteAction) (place : ℕ) → IsOnNoLink site contents to link place
    → IsIllegalAt illegal.NotAStep site contents (SiteEvent.TakeFrom to hand link place)
none_there site contents to hand link place none = λ new from. none from.copy (on_link site contents to hand link place new from)

pub place_kept : (parts new : List PartState) (link : SiteAction) (place tag : ℕ) → slice_get (passed_of parts link) place ≡ Some tag
    → passed_of new ≡ passed_of parts → place < length (passed_of new link)
place_kept parts new link place tag is same = subst (λ (f : SiteAction → List ℕ). place < length (f link)) (sym same) (go (passed_of parts link) place is)
  where
    go : (xs : List ℕ) (k : ℕ) → slice_get xs k ≡ Some tag → k < length xs
    go [] k e = absurd (cc)
    go (x ∷ xs) ℕ.zero e = omega (arith)
    go (x ∷ xs) (ℕ.suc k) e = let l = go xs k e in omega (arith, l)

pub from_link : (site : Site) (contents : Contents) (to : SiteInput) (hand : ℕ) (link : SiteAction) (place : ℕ) (copy : Copy) (new last : List PartState)
    (after : List Loss) → AreOf site contents.parts → IsOnLink site contents to link place copy
    → TakesEntry contents.parts contents.losses to hand copy.message (length contents.copies) new after → Leaves new link place last
    → Applies site contents (SiteEvent.TakeFrom to hand link place)
    (holding last (contents.copies ++ taken_by to.relay (off_link site link copy) ∷ []) after contents.arrivals)
from_link site contents to hand link place copy new last after of on t gone = (
  record {
    leads = on.leads;
    before = take place (passed_of contents.parts link);
    tag = on.tag;
    behind = drop (place + 1) (passed_of contents.parts link);
    on_link = (split (passed_of contents.parts link) place on.tag on.stands).0;
    stands = (split (passed_of contents.parts link) place on.tag on.stands).1;
    copy = copy;
    is = on.is;
    takes = record {
      node = t.node;
      message = t.its_message;
      tag = t.its_tag;
      step = record {
        state = t.state;
        outs = t.outs;
        step = take_step site contents.parts contents.losses after to hand copy.message (length contents.copies) new of t;
        after = same ∙ take_after contents.parts copied links contents.losses after contents.arrivals to hand copy.message (length contents.copies) new t;
      };
    };
  },
  gone.boards ∙ t.boards,
) where
  copied : List Copy
  copied = contents.copies ++ taken_by to.relay (off_link site link copy) ∷ []

  links : SiteAction → List ℕ
  links = with_passed (passed_of contents.parts) link (without (passed_of contents.parts link) place)

  same : site_state last copied after contents.arrivals ≡ state_with (relays_of new) copied links after contents.arrivals
  same = sym (ap (λ r. state_with r copied links after contents.arrivals) (sym gone.relays)
      ∙ ap (λ p. state_with (relays_of last) copied p after contents.arrivals)
      (ap (λ f. with_passed f link (without (f link) place)) (sym t.passed) ∙ sym gone.passed))

pub not_from_link : (why : Illegal) (site : Site) (contents : Contents) (to : SiteInput) (hand : ℕ) (link : SiteAction) (place : ℕ) (copy : Copy)
    → AreOf site contents.parts → IsOnLink site contents to link place copy
    → IsNoEntry why contents.parts to hand copy.message (length contents.copies)
    → IsIllegalAt why site contents (SiteEvent.TakeFrom to hand link place)
not_from_link illegal.NotAStep site contents to hand link place copy of on none = λ new from.
    let one = one_copy site contents to link place copy from.copy on (on_link site contents to hand link place new from) in
    copy_refused illegal.NotAStep site contents.parts contents.copies (with_passed (passed_of contents.parts) link (from.before ++ from.behind)) contents.losses contents.arrivals to hand (off_link site link from.copy) of
    (subst (λ (c : Copy). IsNoEntry illegal.NotAStep contents.parts to hand c.message (length contents.copies)) one none) new from.takes
not_from_link illegal.NoMemory site contents to hand link place copy of on none = tt
not_from_link illegal.TotalsFull site contents to hand link place copy of on none =
    let links : SiteAction → List ℕ = with_passed (passed_of contents.parts) link (without (passed_of contents.parts link) place) in
    let taken = copy_refused illegal.TotalsFull site contents.parts contents.copies links contents.losses contents.arrivals to hand (off_link site link copy) of none in (
      taken.0,
      record {
        leads = on.leads;
        before = take place (passed_of contents.parts link);
        tag = on.tag;
        behind = drop (place + 1) (passed_of contents.parts link);
        on_link = (split (passed_of contents.parts link) place on.tag on.stands).0;
        stands = (split (passed_of contents.parts link) place on.tag on.stands).1;
        copy = copy;
        is = on.is;
        takes = taken.1;
      },
      taken.2,
    )
