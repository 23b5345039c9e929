-- Each run of a sound site ends in a safe state.
use Rattle.std.proofs.Common.{◌≡◌, ℕ, true, false, List, [], ◌∷◌, ◌++◌, refl, sym, subst, ap, arith, inl, inr, Some}
use Rattle.std.specs.Prelude.{slice_get}
use Rattle.std.specs.List.{Contains}
use Rattle.sy_wire.specs.Messages.{Said}
use Rattle.sy_rules.specs.declared.lists.occurrence.Occurrence.{Occurrence}
use Rattle.sy_rules.specs.declared.lists.occurrence.Occurrence.TheVariants as occurrence
use Rattle.sy_rules.proofs.lemmas.lists.WorkLaws.{must_work}
use Rattle.sy_rules.specs.Whole.{body_at}
use Rattle.sy_board.specs.relay.Cells.{at}
use Rattle.sy_board.specs.relay.Steps.{Event}
use Rattle.sy_site.specs.Sites.{Site, SiteInput, SiteAction, archives, is_protected, is_spare, plan_at}
use Rattle.sy_site.specs.machine.States.{Arrival, Copy, SiteState, copy_of_new, opening, taken_by}
use Rattle.sy_site.specs.machine.Steps.{Runs, SiteEvent, SiteStep, SiteSteps}
use Rattle.sy_site.specs.machine.Reach.{ListLeadsTo, MustDo, leads_on, list_of, posts_on, writes}
use Rattle.sy_site.specs.machine.Confinement.{IsFollowed}
use Rattle.sy_site.specs.machine.Lawful.{IsLawful}
use Rattle.sy_site.specs.machine.Safety.{AreSafe, AreWrittenOrHead, HasLeft, Heads, IsCopyOf, IsHeld, IsOnLink, IsWritten, IsWrittenOrHeads, Left, forwards, posts}
use Rattle.sy_site.specs.machine.Safety as safety
use Rattle.sy_site.specs.machine.Soundness.{IsSound}
use Rattle.sy_site.proofs.machine.Guarded.{confined_run, falls_apart, falls_run}
use Rattle.sy_site.proofs.machine.Heading.{IsCopied, Met, NoLoss, NotIts, arrives_new, heading_plain, met_step}
use Rattle.sy_board.proofs.relay.Keeps.{Each}
use Rattle.sy_site.proofs.machine.Lawful.{archives_lead_nowhere}
use Rattle.sy_site.proofs.machine.Naming.{AllShaped, get_cases, named_run, relay_arrivals, shaped_start, shaped_step}
use Rattle.sy_site.proofs.machine.Spares.{both_false}
use Rattle.sy_site.proofs.machine.Stays.{SomeOf}

some_in : {A : Type 0} (P : A → Type 0) (xs : List A) → SomeOf P xs → (x : A) × Contains xs x × P x
some_in P [] h = absurd h
some_in P (x ∷ xs) h = elim h [
  | inl p ↦ (x, (0, omega arith, refl), p)
  | inr t ↦ let f = some_in P xs t in
      (f.0, (ℕ.suc f.1.0, (let l = f.1.1 in omega (arith, l)), f.1.2), f.2)
]

each_from : {A : Type 0} (P : A → Type 0) (xs : List A) → ((x : A) → Contains xs x → P x) → Each P xs
each_from P [] f = tt
each_from P (y ∷ ys) f = (f y (0, omega arith, refl), each_from P ys (λ x h. f x (ℕ.suc h.0, (let l = h.1 in omega (arith, l)), h.2)))

pub steps_on : (site : Site) (s : SiteState) (es : List SiteEvent) (mid : SiteState) (e : SiteEvent) (new : SiteState) → SiteSteps site s es mid
    → SiteStep site mid e new
    → SiteSteps site s (es ++ e ∷ []) new
steps_on site s [] mid e new is st = (new, subst (λ z. SiteStep site z e new) is st, refl)
steps_on site s (x ∷ es) mid e new (next, first, more) st = (next, first, steps_on site next es mid e new more st)

-- what must come to an archive heads there
has_left : (site : Site) (m : Said) (r l number : ℕ) (o : Occurrence) → MustDo site m.class r l number o → HasLeft site r l m Left.All o
has_left site m r l number o does = record {
  number = number;
  member = must_work (body_at (plan_at site r) l) m m.class number refl does.must;
  found = does.found;
  firm = does.firm;
}

leads_heads : (site : Site) (d : SiteAction) (m : Said) (r l : ℕ) → ListLeadsTo site m.class d r l → Heads site d m r l Left.All
leads_heads site d m r l (writes number a does e) = safety.writes a (has_left site m r l number (occurrence.Run a) does) e
leads_heads site d m r l (leads_on number a to does goes more) =
    forwards a to (has_left site m r l number (occurrence.Run a) does) goes (leads_heads site d m to.relay (list_of site to) more)
leads_heads site d m r l (posts_on number inner does more) =
    posts inner (has_left site m r l number (occurrence.Post inner) does) (leads_heads site d m r inner more)

module _ (site : Site) (law : IsLawful site) (sound : IsSound site) where
  abbrev IsProtected : Arrival → Type 0
  IsProtected a = (is_protected site a.message.class ≡ true) × Contains site.entries a.origin

  record Kept (s : SiteState) : Type 0 where
    pub before : List SiteEvent
    pub run : Runs site before s
    pub shaped : AllShaped site s.relays
    pub met : (n : ℕ) (a : Arrival) → slice_get s.arrivals n ≡ Some a → IsProtected a → (d : SiteAction) → Contains (archives site a.message.class) d
        → Met site d n a.message s

  -- a copy of the number of a protected message
  followed : (s : SiteState) (es : List SiteEvent) → Runs site es s → (n : ℕ) (a : Arrival) → slice_get s.arrivals n ≡ Some a → IsProtected a
      → (t : ℕ) (x : Copy) → slice_get s.copies t ≡ Some x → x.number ≡ n → IsFollowed site s a.message.class t x
  followed s es run n a at p t x is number =
      let known = named_run site es s run t x is in
      let e : slice_get s.arrivals n ≡ Some (record { message = x.message; origin = x.origin }) =
      subst (λ z. slice_get s.arrivals z ≡ Some (record { message = x.message; origin = x.origin })) number known in
      let f : a ≡ record { message = x.message; origin = x.origin } = cc in
      record {
        is = is;
        class_is = sym (ap (λ (z : Arrival). z.message.class) f);
        entered = subst (λ (z : Arrival). Contains site.entries z.origin) f p.1;
      }

  no_loss : (s : SiteState) (es : List SiteEvent) → Runs site es s → (n : ℕ) (a : Arrival) → slice_get s.arrivals n ≡ Some a → (p : IsProtected a)
      → (d : SiteAction) → NoLoss site d n a.message s
  no_loss s es run n a at p d =
      let never = confined_run site a.message.class (sound a.message.class p.0) es s run in
      each_from (NotIts site d n a.message s.copies) s.losses
      (λ l k copy plain. never.not_lost l k copy.copy (followed s es run n a at p l.copy copy.copy copy.is copy.number) plain)

  met_on : (s : SiteState) (e : SiteEvent) (new : SiteState) → Kept s → SiteStep site s e new → (n : ℕ) (a : Arrival)
      → slice_get new.arrivals n ≡ Some a
      → IsProtected a → (d : SiteAction) → Contains (archives site a.message.class) d → NoLoss site d n a.message new → Met site d n a.message new
  met_on s (SiteEvent.TakeNew to h m) new w st n a at p d k safe =
      let x : Arrival = record { message = m; origin = to } in
      let mid : SiteState = record s { arrivals = s.arrivals ++ x ∷ [] } in
      let same = relay_arrivals site (record mid { copies = s.copies ++ taken_by to.relay (copy_of_new s to m) ∷ [] }) to.relay
      (Event.Take to.input h st.node) new st.step in
      elim (get_cases s.arrivals n a x (subst (λ z. slice_get z n ≡ Some a) same at)) [
        | inl before ↦ met_step site d n a.message law s (SiteEvent.TakeNew to h m) new w.shaped
            (archives_lead_nowhere site law a.message.class d k) safe (w.met n a before p d k) st
        | inr here ↦ arrives_new site d n a.message mid to h (copy_of_new s to m) new w.shaped safe (sym here.0)
            (ap (λ (z : Arrival). z.message) here.1) refl
            (subst (λ (z : SiteInput). Heads site d a.message z.relay (list_of site z) Left.All) (sym (ap (λ (z : Arrival). z.origin) here.1))
            (leads_heads site d a.message a.origin.relay (list_of site a.origin) ((sound a.message.class p.0).leads a.origin p.1 d k))) st
      ]
  met_on s (SiteEvent.TakeFrom to h link place) new w st n a at p d k safe =
      let same : new.arrivals ≡ s.arrivals = relay_arrivals site _ to.relay (Event.Take to.input h st.takes.node) new st.takes.step in
      met_step site d n a.message law s (SiteEvent.TakeFrom to h link place) new w.shaped (archives_lead_nowhere site law a.message.class d k) safe
      (w.met n a (subst (λ z. slice_get z n ≡ Some a) same at) p d k) st
  met_on s (SiteEvent.Inside r event) new w st n a at p d k safe =
      met_step site d n a.message law s (SiteEvent.Inside r event) new w.shaped (archives_lead_nowhere site law a.message.class d k) safe
      (w.met n a (subst (λ z. slice_get z n ≡ Some a) (relay_arrivals site s r event new st.1) at) p d k) st

  kept_step : (s : SiteState) (e : SiteEvent) (new : SiteState) → Kept s → SiteStep site s e new → Kept new
  kept_step s e new w st =
      let run = steps_on site (opening site) w.before s e new w.run st in
      record {
        before = w.before ++ e ∷ [];
        run = run;
        shaped = shaped_step site s e new w.shaped st;
        met = λ n a at p d k. met_on s e new w st n a at p d k (no_loss new (w.before ++ e ∷ []) run n a at p d);
      }

  kept_steps : (s : SiteState) (es : List SiteEvent) (new : SiteState) → Kept s → SiteSteps site s es new → Kept new
  kept_steps s [] new w is = subst Kept (sym is) w
  kept_steps s (e ∷ es) new w (mid, st, more) = kept_steps mid es new (kept_step s e mid w st) more

  kept_start : Kept (opening site)
  kept_start = record { before = []; run = refl; shaped = shaped_start site; met = λ n a at p d k. absurd (cc) }

  abbrev copy_of : (s : SiteState) (n : ℕ) (m : Said) (t : ℕ) → IsCopied s.copies n m t → IsCopyOf s.copies n t
  copy_of s n m t c = record { copy = c.copy; is = c.is; numbered = c.number }

  met_says : (s : SiteState) (d : SiteAction) (n : ℕ) (m : Said) → Met site d n m s → IsWrittenOrHeads site s d n
  met_says s d n m (inl h) =
      let f = some_in _ (at (s.relays h.0) h.1.0) h.1.1 in
      inr (inl (record {
        relay = h.0;
        cell = h.1.0;
        entry = f.0;
        there = f.1;
        copy = copy_of s n m f.0.tag f.2.copy;
        plain = heading_plain site d n m s.copies h.0 f.0 f.2;
        heads = subst (λ z. Heads site d z h.0 f.0.list (Left.StillDue f.0.due)) (sym f.2.message) f.2.heads;
      }))
  met_says s d n m (inr h) =
      let f = some_in _ (s.passed h.0) h.1 in
      elim f.2.2 [
        | inl is ↦ inl (record {
          tag = f.0;
          there = subst (λ z. Contains (s.passed z) f.0) is f.1;
          copy = copy_of s n m f.0 f.2.0;
          plain = both_false f.2.0.copy.flag (is_spare site d) f.2.0.plain (subst (λ z. is_spare site z ≡ false) is f.2.1);
        })
        | inr to ↦ inr (inr (record {
          link = h.0;
          to = to.0;
          leads = to.1;
          tag = f.0;
          there = f.1;
          copy = copy_of s n m f.0 f.2.0;
          plain = both_false f.2.0.copy.flag (is_spare site h.0) f.2.0.plain f.2.1;
          heads = subst (λ z. Heads site d z to.0.relay (list_of site to.0) Left.All) (sym f.2.0.message) to.2;
        }))
      ]

  pub written_run : (es : List SiteEvent) (s : SiteState) → Runs site es s → AreWrittenOrHead site s
  written_run es s run n a at protected entered d k =
      let w = kept_steps (opening site) es s kept_start run in
      met_says s d n a.message (w.met n a at (protected, entered) d k)

  pub safe_run : (es : List SiteEvent) (s : SiteState) → Runs site es s → AreSafe site s
  safe_run es s run n a at protected entered =
      let good = sound a.message.class protected in
      let never = confined_run site a.message.class good es s run in
      let falls = falls_run site a.message.class good es s run in
      let ours : (t : ℕ) (c : IsCopyOf s.copies n t) → IsFollowed site s a.message.class t c.copy
      = λ t c. followed s es run n a at (protected, entered) t c.copy c.is c.numbered in
      record {
        kept = written_run es s run n a at protected entered;
        not_lost = λ l k c plain. never.not_lost l k c.copy (ours l.copy c) plain;
        held_once = λ r k e i c. falls_apart good.rank c.copy.trail (falls.held r k e i c.copy (ours e.tag c)).0;
        passed_once = λ d t i c. falls_apart good.rank c.copy.trail (falls.passed d t i c.copy (ours t c)).0;
      }
