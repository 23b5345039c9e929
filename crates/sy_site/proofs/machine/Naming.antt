-- Each copy is of the message that came under its number; each tag names a copy, and an entry has its copy's message; each relay keeps its places.
use Rattle.std.proofs.Common.{◌≡◌, ℕ, ◌*◌, List, [], ◌∷◌, ◌++◌, length, refl, sym, subst, ap, inl, inr, arith, ◌∙◌, Some}
use Rattle.std.specs.Prelude.{◌⊎◌, slice_get}
use Rattle.std.specs.List.{Contains}
use Rattle.std.proofs.lemmas.List.{length-replicate}
use Rattle.sy_chain.specs.Entries.{Entry}
use Rattle.sy_board.specs.relay.Cells.{Cell, IsShaped, RelayState}
use Rattle.sy_board.specs.relay.Steps.{Cause, Event, Out}
use Rattle.sy_board.proofs.relay.Shapes.{shape_step}
use Rattle.sy_site.specs.Sites.{Site, SiteInput, SiteAction, plan_at}
use Rattle.sy_site.specs.machine.States.{Arrival, Copy, SiteState, copy_of_new, off_link, opening, push_outs, taken_by, with_passed, with_relay}
use Rattle.sy_site.specs.machine.Steps.{RelaySteps, Runs, SiteEvent, SiteStep, SiteSteps, TakesCopy}
use Rattle.sy_site.specs.machine.Naming.{AreShaped, NumbersName, TagsName}
use Rattle.sy_board.proofs.relay.Keeps.{Each, Kept}
use Rattle.sy_site.proofs.machine.Marks.{push_outs_relays, relay_elim}
use Rattle.sy_site.proofs.machine.Spread.{Grows, Moves, OutOf, get_last, get_more, run_keeps, start_keeps}

pub get_cases : {A : Type 0} (xs : List A) (n : ℕ) (a x : A) → slice_get (xs ++ x ∷ []) n ≡ Some a
    → (slice_get xs n ≡ Some a) ⊎ ((n ≡ length xs) × (x ≡ a))
get_cases [] ℕ.zero a x e = inr (refl, cc)
get_cases [] (ℕ.suc n) a x e = absurd (cc)
get_cases (y ∷ ys) ℕ.zero a x e = inl e
get_cases (y ∷ ys) (ℕ.suc n) a x e = elim (get_cases ys n a x e) [ inl h ↦ inl h | inr h ↦ inr (ap ℕ.suc h.0, h.1) ]

-- what leaves a relay makes no copy, and brings no message
push_outs_copies : (s : SiteState) (r : ℕ) (outs : List Out) → (push_outs s r outs).copies ≡ s.copies
push_outs_copies s r [] = refl
push_outs_copies s r (Out.Passed a e ∷ outs) =
    let d : SiteAction = record { relay = r; action = a } in
    push_outs_copies (record s { passed = with_passed s.passed d (s.passed d ++ e.tag ∷ []) }) r outs
push_outs_copies s r (Out.Lost cause e ∷ outs) =
    push_outs_copies (record s { losses = s.losses ++ record { copy = e.tag; relay = r; list = e.list; cause = cause } ∷ [] }) r outs

push_outs_arrivals : (s : SiteState) (r : ℕ) (outs : List Out) → (push_outs s r outs).arrivals ≡ s.arrivals
push_outs_arrivals s r [] = refl
push_outs_arrivals s r (Out.Passed a e ∷ outs) =
    let d : SiteAction = record { relay = r; action = a } in
    push_outs_arrivals (record s { passed = with_passed s.passed d (s.passed d ++ e.tag ∷ []) }) r outs
push_outs_arrivals s r (Out.Lost cause e ∷ outs) =
    push_outs_arrivals (record s { losses = s.losses ++ record { copy = e.tag; relay = r; list = e.list; cause = cause } ∷ [] }) r outs

-- what holds of each element, at one that the list contains
pub each_in : {A : Type 0} (P : A → Type 0) (xs : List A) → Each P xs → (x : A) → Contains xs x → P x
each_in P [] a x (k, l, is) = absurd (omega arith)
each_in P (y ∷ ys) a x (ℕ.zero, l, is) = subst P is a.0
each_in P (y ∷ ys) a x (ℕ.suc k, l, is) = each_in P ys a.1 x (k, omega (arith, l), is)

module _ (site : Site) where
  -- ---- numbers

  pub relay_copies : (s : SiteState) (r : ℕ) (e : Event) (new : SiteState) → RelaySteps site s r e new → new.copies ≡ s.copies
  relay_copies s r e new st =
      ap (λ (x : SiteState). x.copies) st.after ∙ push_outs_copies (record s { relays = with_relay s.relays r st.state }) r st.outs

  pub relay_arrivals : (s : SiteState) (r : ℕ) (e : Event) (new : SiteState) → RelaySteps site s r e new → new.arrivals ≡ s.arrivals
  relay_arrivals s r e new st =
      ap (λ (x : SiteState). x.arrivals) st.after ∙ push_outs_arrivals (record s { relays = with_relay s.relays r st.state }) r st.outs

  copy_named : (s : SiteState) (to : SiteInput) (h : ℕ) (c : Copy) (new : SiteState) → NumbersName s
      → slice_get s.arrivals c.number ≡ Some (record { message = c.message; origin = c.origin }) → TakesCopy site s to h c new → NumbersName new
  copy_named s to h c new a is st t x e =
      let mid : SiteState = record s { copies = s.copies ++ taken_by to.relay c ∷ [] } in
      let event = Event.Take to.input h st.node in
      let f : slice_get (s.copies ++ taken_by to.relay c ∷ []) t ≡ Some x = subst (λ z. slice_get z t ≡ Some x)
      (relay_copies mid to.relay event new st.step) e in
      subst (λ z. slice_get z x.number ≡ Some (record { message = x.message; origin = x.origin }))
      (sym (relay_arrivals mid to.relay event new st.step))
      (elim (get_cases s.copies t x (taken_by to.relay c) f) [
        | inl before ↦ a t x before
        | inr here ↦ subst (λ (z : Copy). slice_get s.arrivals z.number ≡ Some (record { message = z.message; origin = z.origin })) here.1 is
      ])

  named_step : (s : SiteState) (e : SiteEvent) (new : SiteState) → NumbersName s → SiteStep site s e new → NumbersName new
  named_step s (SiteEvent.TakeNew to h m) new a st =
      let x : Arrival = record { message = m; origin = to } in
      copy_named (record s { arrivals = s.arrivals ++ x ∷ [] }) to h (copy_of_new s to m) new
      (λ t c e. get_more s.arrivals c.number _ x (a t c e)) (get_last s.arrivals x) st
  named_step s (SiteEvent.TakeFrom to h link place) new a st =
      copy_named (record s { passed = with_passed s.passed link (st.before ++ st.behind) }) to h (off_link site link st.copy) new a (a st.tag st.copy st.is) st.takes
  named_step s (SiteEvent.Inside r event) new a st =
      λ t x e. subst (λ z. slice_get z x.number ≡ Some (record { message = x.message; origin = x.origin })) (sym (relay_arrivals s r event new st.1))
      (a t x (subst (λ z. slice_get z t ≡ Some x) (relay_copies s r event new st.1) e))

  named_steps : (s : SiteState) (es : List SiteEvent) (new : SiteState) → NumbersName s → SiteSteps site s es new → NumbersName new
  named_steps s [] new a is = subst NumbersName (sym is) a
  named_steps s (e ∷ es) new a (mid, st, more) = named_steps mid es new (named_step s e mid a st) more

  pub named_run : (es : List SiteEvent) (new : SiteState) → Runs site es new → NumbersName new
  named_run es new run = named_steps (opening site) es new (λ t x e. absurd (cc)) run

  -- ---- tags

  abbrev P : ℕ → Copy → Cell → Entry → Type 0
  P r x c e = e.message ≡ x.message

  abbrev D : SiteAction → Copy → Type 0
  D d x = Unit {0}

  abbrev L : ℕ → ℕ → Cause → Copy → Type 0
  L r l cause x = Unit {0}

  abbrev G : ℕ → RelayState → Type 0
  G r state = Unit {0}

  tags_kept : (r : ℕ) (x : Copy) → Kept (plan_at site r) (P r x) (OutOf D L r x) (G r)
  tags_kept r x = record {
    enters = λ i h e there p. p;
    grabs = λ w e p. p;
    advances = λ w e number left p l. p;
    runs = λ w e a p o. tt;
    posts = λ w e l node p o made. made.message ∙ p;
    lost_take = λ old i h e g p there t. tt;
    lost_expire = λ old i h e p leaves full. tt;
    lost_grab = λ old q n e g p l t. tt;
    lost_run = λ w n e a p o t. tt;
    lost_post = λ old w e l no_memory p o cause. tt;
    lost_node = λ old w e l g p o d. tt;
  }

  tags_moves : Moves site P D L G
  tags_moves = record { inside = tags_kept; over = λ d to h x node p t there made m. m }

  tags_grow : Grows site (λ t. P) (λ t. D) (λ t. L)
  tags_grow = record {
    of_entry = λ t a r x c e p. p;
    of_copy = λ t a d x p. tt;
    of_loss = λ t a r l cause x p. tt;
    comes = λ t to h m node there made is. is;
  }

  pub tags_run : (es : List SiteEvent) (new : SiteState) → Runs site es new → TagsName new
  tags_run es new run =
      let all = run_keeps site (λ t. P) (λ t. D) (λ t. L) G (λ t. tags_moves) tags_grow (λ s. Unit {0}) (λ s e mid i st. tt) (λ s i r. tt)
      (opening site) es new tt (start_keeps site (λ t. P) (λ t. D) (λ t. L) G (λ t. tags_moves) tags_grow) run in
      record {
        held = λ r k e h. let o = each_in _ _ (all.held r k) e h in (o.copy, o.is, o.holds);
        passed = λ d t h. let o = each_in _ _ (all.passed d) t h in (o.copy, o.is);
        losses = λ l h. let o = each_in _ new.losses all.losses l h in (o.copy, o.is);
      }

  -- ---- places

  abbrev pub AllShaped : (ℕ → RelayState) → Type 0
  AllShaped relays = (r : ℕ) → IsShaped (plan_at site r) (relays r)

  relay_shaped : (s : SiteState) (r : ℕ) (e : Event) (new : SiteState) → AllShaped s.relays → RelaySteps site s r e new → AllShaped new.relays
  relay_shaped s r e new a st =
      subst (λ (x : SiteState). AllShaped x.relays) (sym st.after)
      (subst AllShaped (sym (push_outs_relays (record s { relays = with_relay s.relays r st.state }) r st.outs))
      (relay_elim (λ x. IsShaped (plan_at site x)) s.relays r st.state (shape_step (plan_at site r) (s.relays r) e st.state st.outs (a r) st.step) a))

  pub shaped_step : (s : SiteState) (e : SiteEvent) (new : SiteState) → AllShaped s.relays → SiteStep site s e new → AllShaped new.relays
  shaped_step s (SiteEvent.TakeNew to h m) new a st = relay_shaped _ to.relay _ new a st.step
  shaped_step s (SiteEvent.TakeFrom to h link place) new a st = relay_shaped _ to.relay _ new a st.takes.step
  shaped_step s (SiteEvent.Inside r event) new a st = relay_shaped s r event new a st.1

  pub shaped_start : AllShaped (opening site).relays
  shaped_start r =
      let plan = plan_at site r in
      record {
        hands = length-replicate (64 * length plan.inputs) [];
        queues = length-replicate (length plan.queues) [];
        workers = length-replicate (length plan.workers) [];
        failures = length-replicate (length plan.workers) 0;
      }

  shaped_steps : (s : SiteState) (es : List SiteEvent) (new : SiteState) → AllShaped s.relays → SiteSteps site s es new → AllShaped new.relays
  shaped_steps s [] new a is = subst (λ (x : SiteState). AllShaped x.relays) (sym is) a
  shaped_steps s (e ∷ es) new a (mid, st, more) = shaped_steps mid es new (shaped_step s e mid a st) more

  pub shaped_run : (es : List SiteEvent) (new : SiteState) → Runs site es new → AreShaped site new
  shaped_run es new run = shaped_steps (opening site) es new shaped_start run
