-- What a site holds for an archive it goes on holding for it, or it is written there.
use Rattle.std.proofs.Common.{◌≡◌, ℕ, ◌==◌, Bool, true, false, List, [], ◌∷◌, ◌++◌, refl, sym, subst, arith, inl, inr, Some, None, ◌∙◌}
use Rattle.std.specs.Prelude.{◌⊎◌, slice_get}
use Rattle.std.specs.Int.{bit_at}
use Rattle.std.proofs.lemmas.Nat.Bits.{bit_at-zero}
use Rattle.std.proofs.lemmas.Bool.{eqb-true, eqb-false}
use Rattle.sy_wire.specs.Messages.{Said}
use Rattle.sy_chain.specs.Entries.{Entry}
use Rattle.sy_rules.specs.declared.lists.occurrence.Occurrence.{Occurrence}
use Rattle.sy_rules.specs.declared.lists.occurrence.Occurrence.TheVariants as occurrence
use Rattle.sy_rules.specs.lists.Sets.{IsLowest}
use Rattle.sy_rules.specs.lists.Work.{Due}
use Rattle.sy_rules.specs.Whole.{body_at}
use Rattle.sy_board.specs.relay.Cells.{IsShaped, RelayState, at, hand}
use Rattle.sy_board.specs.relay.Plans.{occurrences_at}
use Rattle.sy_board.specs.relay.Steps.{Cause, Event, IsOfInput, Out, Step, Takes, if_so}
use Rattle.sy_board.proofs.relay.There.{hand_there}
use Rattle.sy_site.specs.Sites.{Site, SiteInput, SiteAction, does_spare, is_spare, is_spare_list, plan_at, same_action, target}
use Rattle.sy_site.specs.machine.States.{Copy, Loss, SiteState, copy_of_new, is_flagged_at, is_flagged_loss, loses_spare, off_link, push_outs, taken_by, with_passed, with_relay}
use Rattle.sy_site.specs.machine.Steps.{RelaySteps, SiteEvent, SiteStep, TakesCopy}
use Rattle.sy_site.specs.machine.Reach.{list_of}
use Rattle.sy_site.specs.machine.Lawful.{IsLawful}
use Rattle.sy_site.specs.machine.Safety.{HasLeft, Heads, Left, forwards, posts, writes}
use Rattle.sy_board.proofs.relay.Keeps.{Each, Owes, each_left, each_right}
use Rattle.sy_site.proofs.machine.Lawful.{whole_at}
use Rattle.sy_site.proofs.machine.Marks.{relay_elim}
use Rattle.sy_site.proofs.machine.Naming.{AllShaped}
use Rattle.sy_site.proofs.machine.Spares.{both_false, firm_list}
use Rattle.sy_site.proofs.machine.Spread.{action_elim, get_last, get_more, some_same}
use Rattle.sy_site.proofs.machine.Stays.{ByCause, Fitting, Held, Keeps, NotLost, PassedOn, SomeOf, set_here, some_left, some_right, stays}

some_split : {A : Type 0} (P : A → Type 0) (xs ys : List A) → SomeOf P (xs ++ ys) → SomeOf P xs ⊎ SomeOf P ys
some_split P [] ys h = inr h
some_split P (x ∷ xs) ys h = elim h [ inl p ↦ inl (inl p) | inr t ↦ elim (some_split P xs ys t) [ inl l ↦ inl (inr l) | inr r ↦ inr r ] ]

some_weaker : {A : Type 0} (P Q : A → Type 0) → ((x : A) → P x → Q x) → (xs : List A) → SomeOf P xs → SomeOf Q xs
some_weaker P Q f [] h = h
some_weaker P Q f (x ∷ xs) h = elim h [ inl p ↦ inl (f x p) | inr t ↦ inr (some_weaker P Q f xs t) ]

eq_self : (n : ℕ) → (n == n) ≡ true
eq_self n = go ((n == n)) refl
  where
    go : (b : Bool) → (n == n) ≡ b → (n == n) ≡ true
    go true e = e
    go false e = absurd (eqb-false n n e refl)

device_self : (d : SiteAction) → same_action d d ≡ true
device_self d = rw (eq_self d.relay, eq_self d.action) refl

-- ---- a function changed at one key

with_relay_here : (f : ℕ → RelayState) (r : ℕ) (part : RelayState) → with_relay f r part r ≡ part
with_relay_here f r part = rw (eq_self r) refl

with_device_here : (f : SiteAction → List ℕ) (d : SiteAction) (v : List ℕ) → with_passed f d v d ≡ v
with_device_here f d v = rw (device_self d) refl

some_relay : (P : ℕ → RelayState → Type 0) (f : ℕ → RelayState) (r : ℕ) (part : RelayState) (Goal : Type 0)
    → ((x : ℕ) → P x (with_relay f r part x) → Goal) → (P r (f r) → Goal) → (x : ℕ) → P x (f x) → Goal
some_relay P f r part Goal there gone x p =
    relay_elim (λ z new. (P z new → Goal) → P z (f z) → Goal) f r part (λ k q. gone q) (λ z k q. k q) x (there x) p

some_device : (P : SiteAction → List ℕ → Type 0) (f : SiteAction → List ℕ) (d : SiteAction) (v : List ℕ) (Goal : Type 0)
    → ((x : SiteAction) → P x (with_passed f d v x) → Goal) → (P d (f d) → Goal)
    → (x : SiteAction) → P x (f x) → Goal
some_device P f d v Goal there gone x p =
    action_elim (λ z new. (P z new → Goal) → P z (f z) → Goal) f d v (λ k q. gone q) (λ z k q. k q) x (there x) p

fitting : (site : Site) → IsLawful site → (r : ℕ) (old : RelayState) (e : Event) (new : RelayState) (outs : List Out) → IsShaped (plan_at site r) old
    → Step (plan_at site r) old e new outs → Fitting (plan_at site r) old
fitting site law r old e new outs shaped st = record { whole = whole_at site law r old e new outs st; shaped = shaped }

-- ---- one message and one archive

-- the tag names a copy of this number, and of this message,
pub record IsCopied (copies : List Copy) (n : ℕ) (m : Said) (tag : ℕ) : Type 0 where
  pub copy : Copy
  pub is : slice_get copies tag ≡ Some copy
  pub number : copy.number ≡ n
  pub message : copy.message ≡ m
  -- and it wasn't taken flagged
  pub plain : copy.flag ≡ false

module _ (site : Site) (archive : SiteAction) (n : ℕ) (m : Said) where
  -- the occurrence, once dealt with, writes the message to the archive, or the message heads there from elsewhere
  abbrev pub Through : ℕ → Occurrence → Type 0
  Through r (occurrence.Run a) = (record { relay = r; action = a } ≡ archive)
      ⊎ ((p : SiteInput) × (target site (record { relay = r; action = a }) ≡ Some p) × Heads site archive m p.relay (list_of site p) Left.All)
  Through r (occurrence.Post l) = Heads site archive m r l Left.All

  pub heads_by : (r l due : ℕ) → Heads site archive m r l (Left.StillDue due)
      → (o : Occurrence) × HasLeft site r l m (Left.StillDue due) o × Through r o
  heads_by r l due (writes a h e) = (occurrence.Run a, h, inl e)
  heads_by r l due (forwards a p h t k) = (occurrence.Run a, h, inr (p, t, k))
  heads_by r l due (posts j h k) = (occurrence.Post j, h, k)

  pub heads_from : (r l due : ℕ) (o : Occurrence) → HasLeft site r l m (Left.StillDue due) o → Through r o
      → Heads site archive m r l (Left.StillDue due)
  heads_from r l due (occurrence.Run a) h (inl e) = writes a h e
  heads_from r l due (occurrence.Run a) h (inr k) = forwards a k.0 h k.1 k.2
  heads_from r l due (occurrence.Post j) h k = posts j h k

  -- the whole work, once its bits are due
  whole_due : (r l due : ℕ) → ((k : ℕ) → Due (body_at (plan_at site r) l) m k → bit_at due k ≡ 1) → Heads site archive m r l Left.All
      → Heads site archive m r l (Left.StillDue due)
  whole_due r l due all (writes a h e) = writes a (record { number = h.number; member = all h.number h.member; found = h.found; firm = h.firm }) e
  whole_due r l due all (forwards a p h t k) = forwards a p (record { number = h.number; member = all h.number h.member; found = h.found; firm = h.firm }) t k
  whole_due r l due all (posts j h k) = posts j (record { number = h.number; member = all h.number h.member; found = h.found; firm = h.firm }) k

  -- an entry of the message that heads for the archive
  pub record IsHeading (copies : List Copy) (r : ℕ) (e : Entry) : Type 0 where
    pub copy : IsCopied copies n m e.tag
    pub message : e.message ≡ m
    pub heads : Heads site archive m r e.list (Left.StillDue e.due)

  pub record GoesBy (copies : List Copy) (r : ℕ) (e : Entry) (o : Occurrence) : Type 0 where
    pub copy : IsCopied copies n m e.tag
    pub message : e.message ≡ m
    pub through : Through r o
    pub firm : does_spare site r o ≡ false

  -- a copy on this device, which isn't spare, is written, or heads for the archive from the link's end
  abbrev pub IsSent : List Copy → SiteAction → ℕ → Type 0
  IsSent copies d tag = IsCopied copies n m tag × (is_spare site d ≡ false)
      × ((d ≡ archive) ⊎ ((p : SiteInput) × (target site d ≡ Some p) × Heads site archive m p.relay (list_of site p) Left.All))

  abbrev pub Met : SiteState → Type 0
  Met s = ((r : ℕ) × Held (IsHeading s.copies r) (s.relays r)) ⊎ ((d : SiteAction) × SomeOf (IsSent s.copies d) (s.passed d))

  -- no copy of this number is lost, but flagged ones
  abbrev pub NotIts : List Copy → Loss → Type 0
  NotIts copies l = (c : IsCopied copies n m l.copy) → is_flagged_loss site l c.copy ≡ false → ⊥

  abbrev pub NoLoss : SiteState → Type 0
  NoLoss s = Each (NotIts s.copies) s.losses

  heading_keeps : (copies : List Copy) (r : ℕ) → Keeps (plan_at site r) (IsHeading copies r) (GoesBy copies r)
  heading_keeps copies r = record {
    busy = λ e q none. (
        let b = heads_by r e.list e.due q.heads in
        let one : bit_at e.due b.1.number ≡ 1 = b.1.member in
        let zero : bit_at 0 b.1.number ≡ 0 = bit_at-zero b.1.number in
        let f : bit_at 0 b.1.number ≡ 1 = subst (λ z. bit_at z b.1.number ≡ 1) none one in
        omega arith);
    on = λ e o left owes low q. (
        let b = heads_by r e.list e.due q.heads in
        go copies r e o left owes low q b.0 b.1 b.2 (b.1.number == owes.number) refl);
    posts = λ e l node t made. record {
      copy = subst (IsCopied copies n m) (sym made.tag) t.copy;
      message = made.message ∙ t.message;
      heads = subst (λ z. Heads site archive m r z (Left.StillDue node.due)) (sym made.list_is)
          (whole_due r l node.due (λ k i. (made.due k).1 (subst (λ z. Due (body_at (plan_at site r) l) z k) (sym t.message) i)) t.through);
    };
  }
    where
      go : (copies : List Copy) (r : ℕ) (e : Entry) (o : Occurrence) (left : ℕ) (owes : Owes (plan_at site r) e o)
          → IsLowest e.due owes.number left → IsHeading copies r e
          → (x : Occurrence) (i : HasLeft site r e.list m (Left.StillDue e.due) x) → Through r x → (t : Bool) →
          (i.number == owes.number) ≡ t
          → IsHeading copies r (record e { due = left }) ⊎ GoesBy copies r e o
      go copies r e o left owes low q x i k true same =
          let a : slice_get (occurrences_at (plan_at site r) e.list) owes.number ≡ Some x = subst
          (λ z. slice_get (occurrences_at (plan_at site r) e.list) z ≡ Some x) (eqb-true i.number owes.number same) i.found in
          let same = some_same (sym a ∙ owes.is) in
          inr (record {
            copy = q.copy;
            message = q.message;
            through = subst (Through r) same k;
            firm = subst (λ z. does_spare site r z ≡ false) same i.firm;
          })
      go copies r e o left owes low q x i k false other =
          inl (record {
            copy = q.copy;
            message = q.message;
            heads = heads_from r e.list left x
                (record { number = i.number; member = low.others i.number (eqb-false i.number owes.number other) ∙ i.member; found = i.found; firm = i.firm }) k;
          })

  -- ---- what leaves a relay

  abbrev Safely : SiteState → ℕ → Out → Type 0
  Safely s r = NotLost (plan_at site r) (IsHeading s.copies r) (GoesBy s.copies r)

  -- an entry that heads isn't flagged
  pub heading_plain : (copies : List Copy) (r : ℕ) (e : Entry) → (q : IsHeading copies r e) → is_flagged_at site r e.list q.copy.copy ≡ false
  heading_plain copies r e q =
      let b = heads_by r e.list e.due q.heads in
      both_false q.copy.copy.flag (is_spare_list site r e.list) q.copy.plain (firm_list site r e.list b.1.number b.0 b.1.found b.1.firm)

  cause_plain : (copies : List Copy) (r : ℕ) (e : Entry) (cause : Cause)
      → ByCause (plan_at site r) (IsHeading copies r) (GoesBy copies r) e cause → loses_spare site r cause ≡ false
  cause_plain copies r e Cause.Take by = refl
  cause_plain copies r e Cause.Expire by = refl
  cause_plain copies r e Cause.Grab by = refl
  cause_plain copies r e (Cause.GiveUp action) by = by.firm
  cause_plain copies r e (Cause.Post list) by = by.firm
  cause_plain copies r e (Cause.PostLost list) by = by.firm

  push_outs_safe : (s : SiteState) (r : ℕ) (outs : List Out) → NoLoss (push_outs s r outs) → NoLoss s × Each (Safely s r) outs
  push_outs_safe s r [] a = (a, tt)
  push_outs_safe s r (Out.Passed x e ∷ outs) a =
      let d : SiteAction = record { relay = r; action = x } in
      let f = push_outs_safe (record s { passed = with_passed s.passed d (s.passed d ++ e.tag ∷ []) }) r outs a in (f.0, (tt, f.1))
  push_outs_safe s r (Out.Lost cause e ∷ outs) a =
      let l : Loss = record { copy = e.tag; relay = r; list = e.list; cause = cause } in
      let f = push_outs_safe (record s { losses = s.losses ++ l ∷ [] }) r outs a in
      let g = each_right (NotIts s.copies) s.losses (l ∷ []) f.0 in (
        each_left (NotIts s.copies) s.losses (l ∷ []) f.0,
        (
          (λ q by. g.0 q.copy (both_false (is_flagged_at site r e.list q.copy.copy) (loses_spare site r cause) (heading_plain s.copies r e q)
              (cause_plain s.copies r e cause by))),
          f.1,
        ),
      )

  push_outs_met : (s : SiteState) (r : ℕ) (outs : List Out)
      → Met s ⊎ SomeOf (PassedOn (plan_at site r) (IsHeading s.copies r) (GoesBy s.copies r)) outs → Met (push_outs s r outs)
  push_outs_met s r [] h = elim h [ inl k ↦ k | inr k ↦ absurd k ]
  push_outs_met s r (Out.Passed x e ∷ outs) h =
      let d : SiteAction = record { relay = r; action = x } in
      let v = s.passed d ++ e.tag ∷ [] in
      let new : SiteState = record s { passed = with_passed s.passed d v } in
      let here : SomeOf (IsSent s.copies d) v → Met new = λ k. inr (d, subst (SomeOf (IsSent s.copies d)) (sym (with_device_here s.passed d v)) k) in
      push_outs_met new r outs
      (elim h [
        | inl k ↦ inl (elim k [
          | inl z ↦ inl z
          | inr z ↦ some_device (λ y. SomeOf (IsSent s.copies y)) s.passed d v (Met new) (λ y w. inr (y, w))
              (λ w. here (some_left (IsSent s.copies d) (s.passed d) (e.tag ∷ []) w)) z.0 z.1
        ])
        | inr k ↦ elim k [
          | inl g ↦ inl (here (some_right (IsSent s.copies d) (s.passed d) (e.tag ∷ []) (inl (g.copy, g.firm, g.through))))
          | inr more ↦ inr (more)
        ]
      ])
  push_outs_met s r (Out.Lost cause e ∷ outs) h =
      let new : SiteState = record s { losses = s.losses ++ record { copy = e.tag; relay = r; list = e.list; cause = cause } ∷ [] } in
      push_outs_met new r outs (elim h [ inl k ↦ inl k | inr k ↦ elim k [ inl none ↦ absurd none | inr more ↦ inr more ] ])

  -- ---- the steps of a site

  relays_met : (law : IsLawful site) (s : SiteState) (r : ℕ) (e : Event) (new : SiteState) → AllShaped site s.relays → NoLoss new → Met s
      → RelaySteps site s r e new → Met new
  relays_met law s r e new sized safe met st =
      let mid : SiteState = record s { relays = with_relay s.relays r st.state } in
      let clear = push_outs_safe mid r st.outs (subst NoLoss st.after safe) in
      subst Met (sym st.after)
      (push_outs_met mid r st.outs
      (elim met [
        | inl h ↦ some_relay (λ y. Held (IsHeading s.copies y)) s.relays r st.state
            (Met mid ⊎ SomeOf (PassedOn (plan_at site r) (IsHeading mid.copies r) (GoesBy mid.copies r)) st.outs) (λ y k. inl (inl (y, k)))
            (λ k.
            elim (stays (plan_at site r) (IsHeading s.copies r) (GoesBy s.copies r) (heading_keeps s.copies r) (s.relays r) e st.state st.outs
            (fitting site law r (s.relays r) e st.state st.outs (sized r) st.step) clear.1 st.step k) [
              | inl z ↦ inl (inl (r, subst (Held (IsHeading s.copies r)) (sym (with_relay_here s.relays r st.state)) z))
              | inr z ↦ inr z
            ])
            h.0 h.1
        | inr h ↦ inl (inr h)
      ]))

  copy_more : (s : SiteState) (c : Copy) (tag : ℕ) → IsCopied s.copies n m tag → IsCopied (s.copies ++ c ∷ []) n m tag
  copy_more s c tag k = record { copy = k.copy; is = get_more s.copies tag k.copy c k.is; number = k.number; message = k.message; plain = k.plain }

  more_met : (s : SiteState) (c : Copy) → Met s → Met (record s { copies = s.copies ++ c ∷ [] })
  more_met s c (inl h) = inl (
    h.0,
    (
      h.1.0,
      some_weaker _ _ (λ e k. record { copy = copy_more s c e.tag k.copy; message = k.message; heads = k.heads })
          (at (s.relays h.0) h.1.0) h.1.1,
    ),
  )
  more_met s c (inr h) = inr (h.0, some_weaker _ _ (λ t k. (copy_more s c t k.0, k.1, k.2)) (s.passed h.0) h.1)

  arrives_met : (law : IsLawful site) (s : SiteState) (to : SiteInput) (h : ℕ) (c : Copy) (new : SiteState) → AllShaped site s.relays → NoLoss new
      → Met s → TakesCopy site s to h c new → Met new
  arrives_met law s to h c new sized safe met st =
      relays_met law (record s { copies = s.copies ++ taken_by to.relay c ∷ [] }) to.relay (Event.Take to.input h st.node) new sized safe
      (more_met s (taken_by to.relay c) met) st.step

  -- a copy that heads for the archive is held once it came
  pub arrives_new : (s : SiteState) (to : SiteInput) (h : ℕ) (c : Copy) (new : SiteState) → AllShaped site s.relays → NoLoss new → c.number ≡ n
      → c.message ≡ m → c.flag ≡ false
      → Heads site archive m to.relay (list_of site to) Left.All → TakesCopy site s to h c new → Met new
  arrives_new s to h c new sized safe number message plain heads st = go st.step.step.0 st.step.step.1 st.step.step.2
    where
      mid : SiteState
      mid = record s { copies = s.copies ++ taken_by to.relay c ∷ [] }

      copy : IsCopied mid.copies n m st.node.tag
      copy = record {
        copy = taken_by to.relay c;
        is = subst (λ t. slice_get (s.copies ++ taken_by to.relay c ∷ []) t ≡ Some (taken_by to.relay c))
            (sym st.tag) (get_last s.copies (taken_by to.relay c));
        number = number;
        message = message;
        plain = plain;
      }

      is_m : st.node.message ≡ m
      is_m = st.message ∙ message

      heading : IsOfInput (plan_at site to.relay) to.input st.node → IsHeading mid.copies to.relay st.node
      heading made = record {
        copy = copy;
        message = is_m;
        heads = subst (λ z. Heads site archive m to.relay z (Left.StillDue st.node.due)) (sym made.list)
            (whole_due to.relay (list_of site to) st.node.due
            (λ k w. (made.due k).1 (subst (λ z. Due (body_at (plan_at site to.relay) (list_of site to)) z k) (sym is_m) w)) heads);
      }

      go : (lost : Bool) → Takes (plan_at site to.relay) (s.relays to.relay) to.input h st.node lost st.step.state
          → st.step.outs ≡ if_so lost (Out.Lost Cause.Take st.node) → Met new
      go lost takes outs =
          let end : SiteState = record mid { relays = with_relay s.relays to.relay st.step.state } in
          let clear = push_outs_safe end to.relay st.step.outs (subst NoLoss st.step.after safe) in
          subst Met (sym st.step.after)
          (push_outs_met end to.relay st.step.outs
          (inl (inl (
            to.relay,
            subst (Held (IsHeading mid.copies to.relay)) (sym (with_relay_here s.relays to.relay st.step.state))
                (held lost takes (subst (Each (Safely end to.relay)) outs clear.1)),
          ))))
        where
          held : (b : Bool) → Takes (plan_at site to.relay) (s.relays to.relay) to.input h st.node b st.step.state
              → Each (Safely mid to.relay) (if_so b (Out.Lost Cause.Take st.node)) → Held (IsHeading mid.copies to.relay) st.step.state
          held true takes none = absurd (none.0 (heading takes.made) tt)
          held false takes none = subst (Held (IsHeading mid.copies to.relay)) (sym takes.after)
              (set_here (IsHeading mid.copies to.relay) (s.relays to.relay) (hand to.input h) (st.node ∷ [])
              (hand_there (plan_at site to.relay) (s.relays to.relay) to.input h (sized to.relay) takes.there) (inl (heading takes.made)))

  -- the copy that stood on the link
  leaves_link : (s : SiteState) (link : SiteAction) (to : SiteInput) (h tag : ℕ) (c : Copy) (new : SiteState) → AllShaped site s.relays
      → target site archive ≡ None → target site link ≡ Some to
      → slice_get s.copies tag ≡ Some c → NoLoss new → IsSent s.copies link tag → TakesCopy site s to h (off_link site link c) new → Met new
  leaves_link s link to h tag c new sized file leads is safe (copy, plain, inl e) st = let k : target site link ≡ None = subst (λ z. target site z ≡ None)
      (sym e) file in absurd (cc)
  leaves_link s link to h tag c new sized file leads is safe (copy, plain, inr (p, t, k)) st =
      let e : p ≡ to = some_same (sym t ∙ leads) in
      let f : copy.copy ≡ c = some_same (sym copy.is ∙ is) in
      arrives_new s to h (off_link site link c) new sized safe (subst (λ (z : Copy). z.number ≡ n) f copy.number)
      (subst (λ (z : Copy). z.message ≡ m) f copy.message)
      (both_false c.flag (is_spare site link) (subst (λ (z : Copy). z.flag ≡ false) f copy.plain) plain)
      (subst (λ (z : SiteInput). Heads site archive m z.relay (list_of site z) Left.All) e k) st

  pub met_step : (law : IsLawful site) (s : SiteState) (e : SiteEvent) (new : SiteState) → AllShaped site s.relays → target site archive ≡ None
      → NoLoss new → Met s → SiteStep site s e new → Met new
  met_step law s (SiteEvent.TakeNew to h x) new sized file safe met st =
      arrives_met law (record s { arrivals = s.arrivals ++ record { message = x; origin = to } ∷ [] }) to h (copy_of_new s to x) new sized safe met st
  met_step law s (SiteEvent.TakeFrom to h link place) new sized file safe met st =
      let v = st.before ++ st.behind in
      let mid : SiteState = record s { passed = with_passed s.passed link v } in
      let here : SomeOf (IsSent s.copies link) v → Met new = λ k. arrives_met law mid to h (off_link site link st.copy) new sized safe
      (inr (link, subst (SomeOf (IsSent s.copies link)) (sym (with_device_here s.passed link v)) k)) st.takes in
      elim met [
        | inl z ↦ arrives_met law mid to h (off_link site link st.copy) new sized safe (inl z) st.takes
        | inr z ↦ some_device (λ y. SomeOf (IsSent s.copies y)) s.passed link v (Met new)
            (λ y w. arrives_met law mid to h (off_link site link st.copy) new sized safe (inr (y, w)) st.takes)
            (λ w.
            elim (some_split (IsSent s.copies link) st.before (st.tag ∷ st.behind) (subst (SomeOf (IsSent s.copies link)) st.on_link w)) [
              | inl y ↦ here (some_left (IsSent s.copies link) st.before st.behind y)
              | inr y ↦ elim y [
                | inl sent ↦ leaves_link mid link to h st.tag st.copy new sized file st.leads st.is safe sent st.takes
                | inr y ↦ here (some_right (IsSent s.copies link) st.before st.behind y)
              ]
            ])
            z.0 z.1
      ]
  met_step law s (SiteEvent.Inside r event) new sized file safe met st = relays_met law s r event new sized safe met st.1
