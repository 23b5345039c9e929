-- Whether a list leads to an archive: the lists that it leads on to are gathered until none is new.
use Rattle.std.proofs.Common.{◌≡◌, ℕ, suc, ◌<◌, ◌≤◌, ◌+◌, ◌==◌, ◌&&◌, Bool, true, false, not, List, [], ◌∷◌, ◌++◌, length, Option, Some, None, refl, sym, ap, subst, ◌∙◌, arith, inl, inr, eqb-true, eq-eqb}
use Rattle.std.specs.Prelude.{Contains, ◌⊎◌, option_map}
use Rattle.std.specs.List.{IsDistinct, list_any}
use Rattle.std.proofs.lemmas.Bool.{false≢true}
use Rattle.std.proofs.lemmas.List.{length_push}
use Rattle.std.proofs.lemmas.List.Elements.{Contains-append_left, Contains-push, Contains-push_cases}
use Rattle.std.proofs.lemmas.Map.Keys.{IsDistinct-push}
use Rattle.std.proofs.lemmas.Map.Views.{Contains-from_any}
use Rattle.sy_wire.specs.declared.class.Class.{Class}
use Rattle.sy_rules.specs.declared.lists.occurrence.Occurrence.{Occurrence}
use Rattle.sy_rules.specs.declared.lists.occurrence.Occurrence.TheVariants as occurrence
use Rattle.sy_site.specs.declared.site.SiteAction.{SiteAction}
use Rattle.sy_site.specs.declared.site.SiteInput.{SiteInput}
use Rattle.sy_site.specs.Sites.{Site, same_action, target}
use Rattle.sy_site.specs.machine.Lawful.{IsLawful}
use Rattle.sy_site.specs.machine.Reach.{ListLeadsTo, MustDo, posts_on, writes}
use Rattle.sy_site.specs.machine.Reach as sites
use Rattle.sy_flows.specs.declared.lists.InnerList.{InnerList}
use Rattle.sy_flows.specs.Leads.{IsThere, MustLead, MustWriteAt, leads_on, list_at, same_list}
use Rattle.sy_checker.proofs.Leading.{must_does, must_execute, must_has}
use Rattle.sy_flows.proofs.Led.{few_lists, must_lead_there, not_in_lists, same_list_is, same_list_laws}
use Rattle.sy_fit.proofs.Listing.{In, and_first, and_second, both_true, flat, flat_has, flat_is, in_list, of_list, push_has, push_is, push_keeps, push_one, some, some_has, some_is}
use Rattle.sy_checker.proofs.PathsFound.{leads_not}

not_false : (b : Bool) → not b ≡ true → b ≡ false
not_false true e = absurd (false≢true e)
not_false false e = refl

no_value : {A : Type 0} {x : A} → None ≡ Some x → ⊥
no_value e = cc

one_value : {A : Type 0} {x y : A} → Some x ≡ Some y → x ≡ y
one_value e = cc

module _ (site : Site) (law : IsLawful site) (class : Class) (archive : SiteAction) where
  -- ---- what a list leads on to

  abbrev done : InnerList → List Occurrence
  done x = must_execute site class x.relay x.list

  abbrev led : ℕ → List Occurrence → List InnerList
  led relay [] = []
  led relay (is ∷ later) = push_one true (leads_on site relay is) (led relay later)

  led_has : (relay : ℕ) (all : List Occurrence) (is : Occurrence) (to : InnerList) → In is all → leads_on site relay is ≡ Some to → In to (led relay all)
  led_has relay [] is to i leads = absurd i
  led_has relay (o ∷ later) is to (inl same) leads =
      push_has true (leads_on site relay o) (led relay later) to refl (ap (leads_on site relay) same ∙ leads)
  led_has relay (o ∷ later) is to (inr i) leads =
      push_keeps true (leads_on site relay o) (led relay later) to (led_has relay later is to i leads)

  led_is : (relay : ℕ) (all : List Occurrence) (to : InnerList) → In to (led relay all) → (is : Occurrence) × In is all × (leads_on site relay is ≡ Some to)
  led_is relay [] to i = absurd i
  led_is relay (o ∷ later) to i = elim (push_is true (leads_on site relay o) (led relay later) to i) [
    | inl before ↦ (let t = led_is relay later to before in (t.0, inr t.1, t.2))
    | inr here ↦ (o, inl refl, here.1)
  ]

  abbrev next : InnerList → List InnerList
  next x = led x.relay (done x)

  next_has : (x : InnerList) (number : ℕ) (to : InnerList) → MustLead site class x number to → In to (next x)
  next_has x number to must =
      led_has x.relay (done x) must.is to (must_has site class x.relay x.list number must.is must.does) must.leads

  next_is : (x to : InnerList) → In to (next x) → (number : ℕ) × MustLead site class x number to
  next_is x to i =
      let l = led_is x.relay (done x) to i in
      let does = must_does site class x.relay x.list l.0 l.1 in
      (does.0, record { is = l.0; does = does.1; leads = l.2 })

  abbrev LeadsAt : InnerList → Type 0
  LeadsAt x = ListLeadsTo site class archive x.relay x.list

  by_target : (x : InnerList) (number action : ℕ) → MustDo site class x.relay x.list number (occurrence.Run action) → (found : Option SiteInput)
      → target site (record { relay = x.relay; action = action }) ≡ found → (to : InnerList) → option_map (list_at site) found ≡ Some to
      → LeadsAt to → LeadsAt x
  by_target x number action does None is to e later = absurd (no_value e)
  by_target x number action does (Some input) is to e later =
      sites.leads_on number action input does is (subst LeadsAt (sym (one_value e)) later)

  on_by : (x : InnerList) (number : ℕ) (is : Occurrence) → MustDo site class x.relay x.list number is → (to : InnerList)
      → leads_on site x.relay is ≡ Some to → LeadsAt to → LeadsAt x
  on_by x number (occurrence.Post inner) does to e later = posts_on number inner does (subst LeadsAt (sym (one_value e)) later)
  on_by x number (occurrence.Run action) does to e later =
      by_target x number action does (target site (record { relay = x.relay; action = action })) refl to e later

  -- ---- all that it leads on to

  module _ (start : InnerList) (is_there : IsThere site start) where
    abbrev AsStart : InnerList → Type 0
    AsStart x = LeadsAt x → LeadsAt start

    record Seen (lists : List InnerList) : Type 0 where
      pub there : (x : InnerList) → Contains lists x → IsThere site x
      pub distinct : IsDistinct same_list lists
      pub has : Contains lists start
      pub sound : (x : InnerList) → Contains lists x → AsStart x

    record Closed : Type 0 where
      pub lists : List InnerList
      pub has : Contains lists start
      pub sound : (x : InnerList) → Contains lists x → AsStart x
      pub closed : (x to : InnerList) → Contains lists x → In to (next x) → Contains lists to

    record Longer (lists : List InnerList) : Type 0 where
      pub new : InnerList
      pub seen : Seen (lists ++ new ∷ [])

    abbrev is_new : List InnerList → InnerList → Bool
    is_new lists y = not (list_any (same_list y) lists)

    had : (lists : List InnerList) (y : InnerList) → (b : Bool) → list_any (same_list y) lists ≡ b → (is_new lists y ≡ true → ⊥) → Contains lists y
    had lists y true is none = Contains-from_any same_list_is y lists is
    had lists y false is none = absurd (none (ap not is))

    more_seen : (lists : List InnerList) → Seen lists → (x y : InnerList) → Contains lists x → In y (next x) → list_any (same_list y) lists ≡ false
        → Longer lists
    more_seen lists seen x y there i none =
        let n = next_is x y i in
        record {
          new = y;
          seen = record {
            there = λ z is. elim (Contains-push_cases lists y z is) [
              | inl before ↦ seen.there z before
              | inr here ↦ subst (IsThere site) here (must_lead_there site law class x n.0 y n.1)
            ];
            distinct = IsDistinct-push same_list_laws lists y seen.distinct none;
            has = Contains-append_left lists (y ∷ []) start seen.has;
            sound = λ z is. elim (Contains-push_cases lists y z is) [
              | inl before ↦ seen.sound z before
              | inr here ↦ subst AsStart here (λ later. seen.sound x there (on_by x n.0 n.1.is n.1.does y n.1.leads later))
            ];
          };
        }

    look : (lists : List InnerList) → Seen lists → (b : Bool) → some (is_new lists) (flat next lists) ≡ b → Closed ⊎ Longer lists
    look lists seen true e =
        let f = some_is (is_new lists) (flat next lists) e in
        let g = flat_is next lists f.0 f.1 in
        inr (more_seen lists seen g.0 f.0 (of_list lists g.0 g.1) g.2 (not_false (list_any (same_list f.0) lists) f.2))
    look lists seen false e = inl (record {
      lists = lists;
      has = seen.has;
      sound = seen.sound;
      closed = λ x y there i. had lists y (list_any (same_list y) lists) refl
          (λ new. false≢true (sym e ∙ some_has (is_new lists) (flat next lists) y
          (flat_has next lists x y (in_list lists x there.0 there.1 there.2) i) new));
    })

    close : (n : ℕ) (lists : List InnerList) → Seen lists → 32832 < length lists + n → Closed
    close ℕ.zero lists seen most = let few = few_lists site law lists seen.distinct seen.there in absurd (omega (arith, most, few))
    close (ℕ.suc n) lists seen most = elim (look lists seen (some (is_new lists) (flat next lists)) refl) [
      | inl c ↦ c
      | inr more ↦ let l = length_push lists more.new in close n (lists ++ more.new ∷ []) more.seen (omega (arith, most, l))
    ]

    first : Seen (start ∷ [])
    unfolding IsDistinct
    first = record {
      there = λ x is. subst (IsThere site) (one x is) is_there;
      distinct = (tt, tt);
      has = (0, omega arith, refl);
      sound = λ x is. subst AsStart (one x is) (λ l. l);
    }
      where
        one : (x : InnerList) → Contains (start ∷ []) x → start ≡ x
        one x (ℕ.zero, low, is) = is
        one x (ℕ.suc k, low, is) = absurd (omega (arith, low))

    all : (most : ℕ) → most ≡ 32832 → Closed
    all most is = close most (start ∷ []) first (omega (arith, is))

    -- ---- the archive in one of them

    abbrev is_written : ℕ → Occurrence → Bool
    is_written relay (occurrence.Run action) = same_action (record { relay = relay; action = action }) archive
    is_written relay (occurrence.Post list) = false

    same_is : (a b : SiteAction) → same_action a b ≡ true → a ≡ b
    same_is a b e =
        let relay = eqb-true a.relay b.relay (and_first (a.relay == b.relay) (a.action == b.action) e) in
        let action = eqb-true a.action b.action (and_second (a.relay == b.relay) (a.action == b.action) e) in
        λ i. record { relay = relay i; action = action i }

    same_so : (a b : SiteAction) → a ≡ b → same_action a b ≡ true
    same_so a b e =
        both_true (a.relay == b.relay) (a.action == b.action) (eq-eqb a.relay b.relay (ap (λ (z : SiteAction). z.relay) e))
        (eq-eqb a.action b.action (ap (λ (z : SiteAction). z.action) e))

    abbrev writes_in : InnerList → Bool
    writes_in x = some (is_written x.relay) (done x)

    written_by : (x : InnerList) (is : Occurrence) → In is (done x) → is_written x.relay is ≡ true → LeadsAt x
    written_by x (occurrence.Run action) i e =
        let does = must_does site class x.relay x.list (occurrence.Run action) i in
        writes does.0 action does.1 (same_is (record { relay = x.relay; action = action }) archive e)
    written_by x (occurrence.Post list) i e = absurd (false≢true e)

    writes_is : (x : InnerList) → writes_in x ≡ true → LeadsAt x
    writes_is x e = let f = some_is (is_written x.relay) (done x) e in written_by x f.0 f.1 f.2

    writes_so : (x : InnerList) → MustWriteAt site class archive x → writes_in x ≡ true
    writes_so x w =
        some_has (is_written x.relay) (done x) (occurrence.Run w.action)
        (must_has site class x.relay x.list w.number (occurrence.Run w.action) w.does)
        (same_so (record { relay = x.relay; action = w.action }) archive w.writes)

    pub leads_or_not : LeadsAt start ⊎ (LeadsAt start → ⊥)
    leads_or_not = go (all 32832 refl)
      where
        by : (c : Closed) (b : Bool) → some writes_in c.lists ≡ b → LeadsAt start ⊎ (LeadsAt start → ⊥)
        by c true e = let f = some_is writes_in c.lists e in inl (c.sound f.0 (of_list c.lists f.0 f.1) (writes_is f.0 f.2))
        by c false e = inr (leads_not site class archive c.lists
            (λ x there number to must. c.closed x to there (next_has x number to must))
            (λ x there w. false≢true (sym e ∙ some_has writes_in c.lists x (in_list c.lists x there.0 there.1 there.2) (writes_so x w)))
            start.relay start.list c.has)

        go : Closed → LeadsAt start ⊎ (LeadsAt start → ⊥)
        go c = by c (some writes_in c.lists) refl
