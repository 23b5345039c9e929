-- What holds of every copy in a site, wherever it is.
use Rattle.std.proofs.Common.{◌≡◌, ℕ, ◌==◌, Bool, true, false, List, [], ◌∷◌, ◌++◌, length, refl, sym, subst, Some, ◌∙◌}
use Rattle.std.specs.Prelude.{slice_get, ◌&&◌}
use Rattle.std.proofs.lemmas.Bool.{eqb-true}
use Rattle.sy_wire.specs.Messages.{Said}
use Rattle.sy_chain.specs.Entries.{Entry}
use Rattle.sy_rules.specs.PlanValue.{Plan}
use Rattle.sy_board.specs.relay.Cells.{Cell, RelayState, at, hand}
use Rattle.sy_board.specs.relay.Steps.{Cause, Event, IsHand, IsOfInput, Out}
use Rattle.sy_board.proofs.relay.SetCells.{if_elim}
use Rattle.sy_site.specs.Sites.{Site, SiteInput, SiteAction, plan_at, same_action, target}
use Rattle.sy_site.specs.machine.States.{Arrival, Copy, Loss, SiteState, copy_of_new, off_link, opening, push_outs, taken_by, with_passed, with_relay}
use Rattle.sy_site.specs.machine.Steps.{IsTake, RelaySteps, SiteEvent, SiteStep, SiteSteps, TakesCopy}
use Rattle.sy_board.proofs.relay.Keeps.{Comes, Each, Everywhere, Kept, each_append, each_left, each_right, each_weaker, step_keeps}
use Rattle.sy_board.proofs.relay.Marks.{empty_everywhere}
use Rattle.sy_site.proofs.machine.Marks.{relay_elim}

pub get_more : {A : Type 0} (xs : List A) (n : ℕ) (a x : A) → slice_get xs n ≡ Some a → slice_get (xs ++ x ∷ []) n ≡ Some a
get_more [] n a x e = absurd (cc)
get_more (y ∷ ys) ℕ.zero a x e = e
get_more (y ∷ ys) (ℕ.suc n) a x e = get_more ys n a x e

pub get_last : {A : Type 0} (xs : List A) (x : A) → slice_get (xs ++ x ∷ []) (length xs) ≡ Some x
get_last [] x = refl
get_last (y ∷ ys) x = get_last ys x

both : (a b : Bool) → a && b ≡ true → (a ≡ true) × (b ≡ true)
both true b e = (refl, e)
both false b e = absurd (cc)

action_path : (c d : SiteAction) → c.relay ≡ d.relay → c.action ≡ d.action → c ≡ d
action_path c d p q = λ i. record { relay = p i; action = q i }

pub action_elim : (P : SiteAction → List ℕ → Type 0) (f : SiteAction → List ℕ) (k : SiteAction) (v : List ℕ) → P k v → ((x : SiteAction) → P x (f x))
    → (x : SiteAction) → P x (with_passed f k v x)
action_elim P f k v p all x =
    if_elim (P x) (same_action k x) v (f x)
    (λ e. let h = both (k.relay == x.relay) (k.action == x.action) e in
    subst (λ z. P z v) (action_path k x (eqb-true k.relay x.relay h.0) (eqb-true k.action x.action h.1)) p)
    (λ e. all x)

pub some_same : {A : Type 0} {x y : A} → Some x ≡ Some y → x ≡ y
some_same e = cc

-- the tag names a copy of which this holds
pub record Of (copies : List Copy) (Q : Copy → Type 0) (tag : ℕ) : Type 0 where
  pub copy : Copy
  pub is : slice_get copies tag ≡ Some copy
  pub holds : Q copy

of_more : (copies : List Copy) (c : Copy) (Q : Copy → Type 0) (tag : ℕ) → Of copies Q tag → Of (copies ++ c ∷ []) Q tag
of_more copies c Q tag o = record { copy = o.copy; is = get_more copies tag o.copy c o.is; holds = o.holds }

of_weaker : (copies : List Copy) (Q R : Copy → Type 0) → ((x : Copy) → Q x → R x) → (tag : ℕ) → Of copies Q tag → Of copies R tag
of_weaker copies Q R f tag o = record { copy = o.copy; is = o.is; holds = f o.copy o.holds }

abbrev pub tag_of : Out → ℕ
tag_of (Out.Passed a e) = e.tag
tag_of (Out.Lost cause e) = e.tag

-- what each copy's entries keep, all entries keep
pub kept_of_all : (plan : Plan) (P : Copy → Cell → Entry → Type 0) (O : Copy → Out → Type 0) (G : RelayState → Type 0) (copies : List Copy)
    → ((x : Copy) → Kept plan (P x) (O x) G) → Kept plan (λ c e. Of copies (λ x. P x c e) e.tag) (λ out. Of copies (λ x. O x out) (tag_of out)) G
kept_of_all plan P O G copies k = record {
  enters = λ i h e there p. record { copy = p.copy; is = p.is; holds = (k p.copy).enters i h e there p.holds };
  grabs = λ w e p. record { copy = p.copy; is = p.is; holds = (k p.copy).grabs w e p.holds };
  advances = λ w e n left p l. record { copy = p.copy; is = p.is; holds = (k p.copy).advances w e n left p.holds l };
  runs = λ w e a p o. record { copy = p.copy; is = p.is; holds = (k p.copy).runs w e a p.holds o };
  posts = λ w e l node p o m. record {
    copy = p.copy;
    is = subst (λ t. slice_get copies t ≡ Some p.copy) (sym m.tag) p.is;
    holds = (k p.copy).posts w e l node p.holds o m;
  };
  lost_take = λ old i h e g p there d. record { copy = p.copy; is = p.is; holds = (k p.copy).lost_take old i h e g p.holds there d };
  lost_expire = λ old i h e p l f. record { copy = p.copy; is = p.is; holds = (k p.copy).lost_expire old i h e p.holds l f };
  lost_grab = λ old q n e g p l d. record { copy = p.copy; is = p.is; holds = (k p.copy).lost_grab old q n e g p.holds l d };
  lost_run = λ w n e a p o t. record { copy = p.copy; is = p.is; holds = (k p.copy).lost_run w n e a p.holds o t };
  lost_post = λ old w e l no_memory p o cause. record {
    copy = p.copy;
    is = p.is;
    holds = (k p.copy).lost_post old w e l no_memory p.holds o cause;
  };
  lost_node = λ old w e l g p o d. record { copy = p.copy; is = p.is; holds = (k p.copy).lost_node old w e l g p.holds o d };
}

-- what leaves a relay, by what holds of an action's copies and of losses
abbrev pub OutOf : (SiteAction → Copy → Type 0) → (ℕ → ℕ → Cause → Copy → Type 0) → ℕ → Copy → Out → Type 0
OutOf D L r x (Out.Passed a e) = D (record { relay = r; action = a }) x
OutOf D L r x (Out.Lost cause e) = L r e.list cause x

-- what the moves of a site keep
pub record Moves (site : Site) (P : ℕ → Copy → Cell → Entry → Type 0) (D : SiteAction → Copy → Type 0) (L : ℕ → ℕ → Cause → Copy → Type 0)
    (G : ℕ → RelayState → Type 0) : Type 0 where
  pub inside : (r : ℕ) (x : Copy) → Kept (plan_at site r) (P r x) (OutOf D L r x) (G r)
  pub over : (d : SiteAction) (to : SiteInput) (h : ℕ) (x : Copy) (node : Entry) → D d x → target site d ≡ Some to
      → IsHand (plan_at site to.relay) to.input h
      → IsOfInput (plan_at site to.relay) to.input node → node.message ≡ x.message → P to.relay (taken_by to.relay (off_link site d x)) (hand to.input h) node

-- what goes on holding once one more message came, and of that message
pub record Grows (site : Site) (P : List Arrival → ℕ → Copy → Cell → Entry → Type 0) (D : List Arrival → SiteAction → Copy → Type 0)
    (L : List Arrival → ℕ → ℕ → Cause → Copy → Type 0) : Type 0 where
  pub of_entry : (t : List Arrival) (a : Arrival) (r : ℕ) (x : Copy) (c : Cell) (e : Entry) → P t r x c e → P (t ++ a ∷ []) r x c e
  pub of_copy : (t : List Arrival) (a : Arrival) (d : SiteAction) (x : Copy) → D t d x → D (t ++ a ∷ []) d x
  pub of_loss : (t : List Arrival) (a : Arrival) (r l : ℕ) (cause : Cause) (x : Copy) → L t r l cause x → L (t ++ a ∷ []) r l cause x
  pub comes : (t : List Arrival) (to : SiteInput) (h : ℕ) (m : Said) (node : Entry) → IsHand (plan_at site to.relay) to.input h
      → IsOfInput (plan_at site to.relay) to.input node → node.message ≡ m
      → P (t ++ record { message = m; origin = to } ∷ []) to.relay
      (record { number = length t; message = m; origin = to; trail = to.relay ∷ []; flag = false }) (hand to.input h) node

pub record Spread (copies : List Copy) (P : ℕ → Copy → Cell → Entry → Type 0) (D : SiteAction → Copy → Type 0) (L : ℕ → ℕ → Cause → Copy → Type 0)
    (s : SiteState) : Type 0 where
  pub held : (r : ℕ) → Everywhere (λ c e. Of copies (λ x. P r x c e) e.tag) (s.relays r)
  pub passed : (d : SiteAction) → Each (Of copies (D d)) (s.passed d)
  pub losses : Each (λ l. Of copies (L l.relay l.list l.cause) l.copy) s.losses

module _ (site : Site) (P : List Arrival → ℕ → Copy → Cell → Entry → Type 0) (D : List Arrival → SiteAction → Copy → Type 0)
    (L : List Arrival → ℕ → ℕ → Cause → Copy → Type 0) (G : ℕ → RelayState → Type 0)
    (moves : (t : List Arrival) → Moves site (P t) (D t) (L t) G) (grows : Grows site P D L) where
  abbrev pub Sp : SiteState → Type 0
  Sp s = Spread s.copies (P s.arrivals) (D s.arrivals) (L s.arrivals) s

  abbrev OutSp : SiteState → ℕ → Out → Type 0
  OutSp s r out = Of s.copies (λ x. OutOf (D s.arrivals) (L s.arrivals) r x out) (tag_of out)

  push_outs_keeps : (s : SiteState) (r : ℕ) (outs : List Out) → Sp s → Each (OutSp s r) outs → Sp (push_outs s r outs)
  push_outs_keeps s r [] a o = a
  push_outs_keeps s r (Out.Passed x e ∷ outs) a o =
      let d : SiteAction = record { relay = r; action = x } in
      push_outs_keeps (record s { passed = with_passed s.passed d (s.passed d ++ e.tag ∷ []) }) r outs
      (record {
        held = a.held;
        passed = action_elim (λ z. Each (Of s.copies (D s.arrivals z))) s.passed d _
            (each_append (Of s.copies (D s.arrivals d)) (s.passed d) _ (a.passed d) (o.0, tt)) a.passed;
        losses = a.losses;
      })
      o.1
  push_outs_keeps s r (Out.Lost cause e ∷ outs) a o =
      let l : Loss = record { copy = e.tag; relay = r; list = e.list; cause = cause } in
      push_outs_keeps (record s { losses = s.losses ++ l ∷ [] }) r outs
      (record {
        held = a.held;
        passed = a.passed;
        losses = each_append (λ (l : Loss). Of s.copies (L s.arrivals l.relay l.list l.cause) l.copy) s.losses _ a.losses (o.0, tt);
      })
      o.1

  relay_keeps : (s : SiteState) (r : ℕ) (e : Event) (new : SiteState) → G r (s.relays r) → Sp s
      → Comes (plan_at site r) (λ c e. Of s.copies (λ x. P s.arrivals r x c e) e.tag) (λ out. OutSp s r out) (G r)
      (kept_of_all (plan_at site r) (P s.arrivals r) (OutOf (D s.arrivals) (L s.arrivals) r) (G r) s.copies ((moves s.arrivals).inside r)) e
      → RelaySteps site s r e new → Sp new
  relay_keeps s r e new g a comes st =
      let k = step_keeps (plan_at site r) (λ c e. Of s.copies (λ x. P s.arrivals r x c e) e.tag) (λ out. OutSp s r out) (G r)
      (kept_of_all (plan_at site r) (P s.arrivals r) (OutOf (D s.arrivals) (L s.arrivals) r) (G r) s.copies ((moves s.arrivals).inside r))
      (s.relays r) e st.state st.outs g comes (a.held r) st.step in
      subst Sp (sym st.after)
      (push_outs_keeps (record s { relays = with_relay s.relays r st.state }) r st.outs
      (record {
        held = relay_elim (λ z. Everywhere (λ c e. Of s.copies (λ x. P s.arrivals z x c e) e.tag)) s.relays r st.state k.0 a.held;
        passed = a.passed;
        losses = a.losses;
      })
      k.1)

  -- the next tag
  copy_keeps : (s : SiteState) (to : SiteInput) (h : ℕ) (c : Copy) (new : SiteState) → G to.relay (s.relays to.relay) → Sp s
      → ((node : Entry) → IsHand (plan_at site to.relay) to.input h → IsOfInput (plan_at site to.relay) to.input node → node.message ≡ c.message
      → P s.arrivals to.relay (taken_by to.relay c) (hand to.input h) node)
      → TakesCopy site s to h c new → Sp new
  copy_keeps s to h c new g a f st =
      let x = taken_by to.relay c in
      let takes = st.step.step.1 in
      relay_keeps (record s { copies = s.copies ++ x ∷ [] }) to.relay (Event.Take to.input h st.node) new g
      (record {
        held = λ z k. each_weaker _ _ (λ (e : Entry). of_more s.copies x (λ y. P s.arrivals z y k e) e.tag) (at (s.relays z) k) (a.held z k);
        passed = λ d. each_weaker _ _ (of_more s.copies x (D s.arrivals d)) (s.passed d) (a.passed d);
        losses = each_weaker _ _ (λ (l : Loss). of_more s.copies x (L s.arrivals l.relay l.list l.cause) l.copy) s.losses a.losses;
      })
      (record {
        copy = x;
        is = subst (λ t. slice_get (s.copies ++ x ∷ []) t ≡ Some x) (sym st.tag) (get_last s.copies x);
        holds = f st.node takes.there takes.made st.message;
      })
      st.step

  pub site_keeps : (s : SiteState) (e : SiteEvent) (new : SiteState) → ((r : ℕ) → G r (s.relays r)) → Sp s → SiteStep site s e new → Sp new
  site_keeps s (SiteEvent.TakeNew to h m) new g a st =
      let x : Arrival = record { message = m; origin = to } in
      copy_keeps (record s { arrivals = s.arrivals ++ x ∷ [] }) to h (copy_of_new s to m) new (g to.relay)
      (record {
        held = λ z k. each_weaker _ _ (λ (e : Entry). of_weaker s.copies _ _ (λ y. grows.of_entry s.arrivals x z y k e) e.tag) (at (s.relays z) k)
            (a.held z k);
        passed = λ d. each_weaker _ _ (of_weaker s.copies _ _ (grows.of_copy s.arrivals x d)) (s.passed d) (a.passed d);
        losses = each_weaker _ _ (λ (l : Loss). of_weaker s.copies _ _ (grows.of_loss s.arrivals x l.relay l.list l.cause) l.copy) s.losses a.losses;
      })
      (λ node there made is. grows.comes s.arrivals to h m node there made is) st
  site_keeps s (SiteEvent.TakeFrom to h link place) new g a st =
      let all : Each (Of s.copies (D s.arrivals link)) (st.before ++ st.tag ∷ st.behind) = subst
      (Each (Of s.copies (D s.arrivals link))) st.on_link (a.passed link) in
      let rest = each_right (Of s.copies (D s.arrivals link)) st.before (st.tag ∷ st.behind) all in
      copy_keeps (record s { passed = with_passed s.passed link (st.before ++ st.behind) }) to h (off_link site link st.copy) new (g to.relay)
      (record {
        held = a.held;
        passed = action_elim (λ z. Each (Of s.copies (D s.arrivals z))) s.passed link _
            (each_append (Of s.copies (D s.arrivals link)) st.before st.behind
            (each_left (Of s.copies (D s.arrivals link)) st.before (st.tag ∷ st.behind) all) rest.1) a.passed;
        losses = a.losses;
      })
      (λ node there made is.
      let same : rest.0.copy ≡ st.copy = some_same (sym rest.0.is ∙ st.is) in
      (moves s.arrivals).over link to h st.copy node (subst (D s.arrivals link) same rest.0.holds) st.leads there made is)
      st.takes
  site_keeps s (SiteEvent.Inside r event) new g a st = relay_keeps s r event new (g r) a (inside_comes event st.0) st.1
    where
      inside_comes : (event : Event) → (IsTake event → ⊥)
          → Comes (plan_at site r) (λ c e. Of s.copies (λ x. P s.arrivals r x c e) e.tag) (λ out. OutSp s r out) (G r)
          (kept_of_all (plan_at site r) (P s.arrivals r) (OutOf (D s.arrivals) (L s.arrivals) r) (G r) s.copies ((moves s.arrivals).inside r)) event
      inside_comes (Event.Take x y node) other = absurd (other tt)
      inside_comes (Event.Enter x y) other = tt
      inside_comes (Event.Expire x y) other = tt
      inside_comes (Event.Grab x) other = tt
      inside_comes (Event.Done x) other = tt
      inside_comes (Event.Fail x y) other = tt
      inside_comes (Event.GiveUp x y) other = tt
      inside_comes (Event.Post x) other = tt
      inside_comes (Event.PostLost x y) other = tt

  pub start_keeps : Sp (opening site)
  start_keeps = record {
    held = λ r c. subst (Each (λ (e : Entry). Of [] (λ x. P [] r x c e) e.tag)) (sym (empty_everywhere (plan_at site r) c)) tt;
    passed = λ d. tt;
    losses = tt;
  }

  pub run_keeps : (invariant : SiteState → Type 0)
      → ((s : SiteState) (e : SiteEvent) (new : SiteState) → invariant s → SiteStep site s e new → invariant new)
      → ((s : SiteState) → invariant s → (r : ℕ) → G r (s.relays r))
      → (s : SiteState) (es : List SiteEvent) (new : SiteState) → invariant s → Sp s → SiteSteps site s es new → Sp new
  run_keeps I on says s [] new i a is = subst Sp (sym is) a
  run_keeps I on says s (e ∷ es) new i a (mid, st, more) = run_keeps I on says mid es new (on s e mid i st) (site_keeps s e mid (says s i) a st) more
