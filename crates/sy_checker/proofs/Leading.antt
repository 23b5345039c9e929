-- All that occurrences of a list lead to, gathered: the lists that posts lead to are gone through until none is new.
use Rattle.std.proofs.Common.{◌≡◌, ℕ, suc, ◌<◌, ◌≤◌, ◌+◌, ◌==◌, ◌&&◌, Bool, true, false, not, List, [], ◌∷◌, ◌++◌, length, Option, Some, None, refl, sym, ap, subst, ◌∙◌, arith, inl, inr, eqb, eqb-true}
use Rattle.std.specs.Prelude.{Contains, ◌⊎◌, ◌↔◌}
use Rattle.std.specs.List.{list_any}
use Rattle.std.proofs.lemmas.Bool.{cases_lt, false≢true}
use Rattle.std.proofs.lemmas.Cmp.{nat_eq_equiv}
use Rattle.std.proofs.lemmas.List.{length_push}
use Rattle.std.proofs.lemmas.List.Elements.{Contains-append_left, Contains-push, Contains-push_cases}
use Rattle.std.proofs.lemmas.Map.Views.{Contains-from_any, list_any-from_Contains}
use Rattle.sy_wire.specs.declared.class.Class.{Class}
use Rattle.sy_select.specs.Properties.{known}
use Rattle.sy_select.specs.internal.Walk.{verdict}
use Rattle.sy_select.proofs.Verdicts.{verdict_is}
use Rattle.sy_rules.specs.internal.Flow.{may_flow, must_flow}
use Rattle.sy_rules.specs.declared.lists.occurrence.Occurrence.{Occurrence}
use Rattle.sy_rules.specs.declared.lists.occurrence.Occurrence.TheVariants as occurrence
use Rattle.sy_rules.specs.Whole.{body_at}
use Rattle.sy_rules.specs.lists.Body.{Body, count, is_in}
use Rattle.sy_rules.specs.lists.Work.{May}
use Rattle.sy_rules.proofs.lemmas.lists.MayMust.{may_is, must_is}
use Rattle.sy_rules.proofs.lemmas.lists.WorkLaws.{may_of_the_list, must_may}
use Rattle.sy_board.specs.relay.Spares.{Scope}
use Rattle.sy_site.specs.declared.site.SiteInput.{SiteInput}
use Rattle.sy_site.specs.Sites.{Site, does_spare, plan_at, target}
use Rattle.sy_site.specs.machine.Lawful.{IsLawful}
use Rattle.sy_site.specs.machine.Reach.{MayDo, MustDo, Reaches, forwards, occurrence_at, posts}
use Rattle.sy_flows.specs.Hops.{AreApart}
use Rattle.sy_fit.proofs.Listing.{In, and_first, and_second, both_true, flat, flat_has, flat_is, gather, gather_has, gather_is, in_list, of_list, push_has, push_is, push_keeps, push_one, some, some_has, some_is}
use Rattle.sy_flows.proofs.Used.{list_of_found, posted_there}
use Rattle.sy_flows.proofs.Walking.{apart_room, more_apart, none_apart}

not_false : (b : Bool) → not b ≡ true → b ≡ false
not_false true e = absurd (false≢true e)
not_false false e = refl

module _ (site : Site) (class : Class) (relay : ℕ) where
  abbrev text : ℕ → Body
  text list = body_at (plan_at site relay) list

  -- ---- what is executed of a list

  abbrev is_asked : Scope → Option Occurrence → Bool
  is_asked Scope.Every o = true
  is_asked Scope.Firm None = false
  is_asked Scope.Firm (Some is) = not (does_spare site relay is)

  abbrev may : Scope → ℕ → ℕ → Bool
  may scope list k = is_in k (may_flow (verdict (known class)) (text list) 0).executed && is_asked scope (occurrence_at site relay list k)

  abbrev must : ℕ → ℕ → Bool
  must list k = is_in k (must_flow (verdict (known class)) (text list) 0).executed && is_asked Scope.Firm (occurrence_at site relay list k)

  abbrev pub executes : Scope → ℕ → List Occurrence
  executes scope list = gather (may scope list) (occurrence_at site relay list) (count (text list))

  abbrev pub must_execute : ℕ → List Occurrence
  must_execute list = gather (must list) (occurrence_at site relay list) (count (text list))

  asked_so : (scope : Scope) (list k : ℕ) (is : Occurrence) → MayDo site class scope relay list k is → (o : Option Occurrence) → o ≡ Some is
      → is_asked scope o ≡ true
  asked_so Scope.Every list k is does o same = refl
  asked_so Scope.Firm list k is does o same = ap (is_asked Scope.Firm) same ∙ ap not does.in_scope

  pub executes_has : (scope : Scope) (list k : ℕ) (is : Occurrence) → MayDo site class scope relay list k is → In is (executes scope list)
  executes_has scope list k is does =
      gather_has (may scope list) (occurrence_at site relay list) (count (text list)) k is (may_of_the_list (text list) class k does.may)
      (both_true (is_in k (may_flow (verdict (known class)) (text list) 0).executed) (is_asked scope (occurrence_at site relay list k))
      ((may_is class (verdict (known class)) (verdict_is (known class)) (text list) k).1 does.may)
      (asked_so scope list k is does (occurrence_at site relay list k) does.found))
      does.found

  pub executes_is : (scope : Scope) (list : ℕ) (is : Occurrence) → In is (executes scope list) → (k : ℕ) × MayDo site class scope relay list k is
  executes_is scope list is i =
      let g = gather_is (may scope list) (occurrence_at site relay list) (count (text list)) is i in
      let k = g.0 in
      let executed = is_in k (may_flow (verdict (known class)) (text list) 0).executed in
      let asked = is_asked scope (occurrence_at site relay list k) in
      let does = (may_is class (verdict (known class)) (verdict_is (known class)) (text list) k).0 (and_first executed asked g.1) in
      (k, does_so scope k does g.2 (and_second executed asked g.1))
    where
      does_so : (scope : Scope) (k : ℕ) → May (text list) class k → occurrence_at site relay list k ≡ Some is
          → is_asked scope (occurrence_at site relay list k) ≡ true → MayDo site class scope relay list k is
      does_so Scope.Every k does found asked = record { may = does; found = found; in_scope = tt }
      does_so Scope.Firm k does found asked = record {
        may = does;
        found = found;
        in_scope = not_false (does_spare site relay is) (subst (λ o. is_asked Scope.Firm o ≡ true) found asked);
      }

  pub must_has : (list k : ℕ) (is : Occurrence) → MustDo site class relay list k is → In is (must_execute list)
  must_has list k is does =
      gather_has (must list) (occurrence_at site relay list) (count (text list)) k is
      (may_of_the_list (text list) class k (must_may (text list) class k does.must))
      (both_true (is_in k (must_flow (verdict (known class)) (text list) 0).executed) (is_asked Scope.Firm (occurrence_at site relay list k))
      ((must_is class (verdict (known class)) (verdict_is (known class)) (text list) k).1 does.must)
      (ap (is_asked Scope.Firm) does.found ∙ ap not does.firm))
      does.found

  pub must_does : (list : ℕ) (is : Occurrence) → In is (must_execute list) → (k : ℕ) × MustDo site class relay list k is
  must_does list is i =
      let g = gather_is (must list) (occurrence_at site relay list) (count (text list)) is i in
      let k = g.0 in
      let executed = is_in k (must_flow (verdict (known class)) (text list) 0).executed in
      let asked = is_asked Scope.Firm (occurrence_at site relay list k) in (
        k,
        record {
          must = (must_is class (verdict (known class)) (verdict_is (known class)) (text list) k).0 (and_first executed asked g.1);
          found = g.2;
          firm = not_false (does_spare site relay is) (subst (λ o. is_asked Scope.Firm o ≡ true) g.2 (and_second executed asked g.1));
        },
      )

  -- ---- where these lead

  abbrev pub targets : List Occurrence → List SiteInput
  targets [] = []
  targets (occurrence.Run action ∷ later) = push_one true (target site (record { relay = relay; action = action })) (targets later)
  targets (occurrence.Post inner ∷ later) = targets later

  pub targets_has : (all : List Occurrence) (action : ℕ) (to : SiteInput) → In (occurrence.Run action) all
      → target site (record { relay = relay; action = action }) ≡ Some to → In to (targets all)
  targets_has [] action to i leads = absurd i
  targets_has (occurrence.Run a ∷ later) action to (inl same) leads =
      push_has true (target site (record { relay = relay; action = a })) (targets later) to refl
      (subst (λ b. target site (record { relay = relay; action = b }) ≡ Some to) (sym (one_action same)) leads)
    where
      one_action : {a b : ℕ} → occurrence.Run a ≡ occurrence.Run b → a ≡ b
      one_action e = cc
  targets_has (occurrence.Run a ∷ later) action to (inr i) leads =
      push_keeps true (target site (record { relay = relay; action = a })) (targets later) to (targets_has later action to i leads)
  targets_has (occurrence.Post inner ∷ later) action to (inl same) leads = absurd (not_both same)
    where
      not_both : {a b : ℕ} → occurrence.Post a ≡ occurrence.Run b → ⊥
      not_both e = cc
  targets_has (occurrence.Post inner ∷ later) action to (inr i) leads = targets_has later action to i leads

  pub targets_is : (all : List Occurrence) (to : SiteInput) → In to (targets all)
      → (action : ℕ) × In (occurrence.Run action) all × (target site (record { relay = relay; action = action }) ≡ Some to)
  targets_is [] to i = absurd i
  targets_is (occurrence.Run a ∷ later) to i = elim (push_is true (target site (record { relay = relay; action = a })) (targets later) to i) [
    | inl before ↦ (let t = targets_is later to before in (t.0, inr t.1, t.2))
    | inr here ↦ (a, inl refl, here.1)
  ]
  targets_is (occurrence.Post inner ∷ later) to i = let t = targets_is later to i in (t.0, inr t.1, t.2)

  abbrev pub inners : List Occurrence → List ℕ
  inners [] = []
  inners (occurrence.Run action ∷ later) = inners later
  inners (occurrence.Post inner ∷ later) = inner ∷ inners later

  pub inners_has : (all : List Occurrence) (inner : ℕ) → In (occurrence.Post inner) all → In inner (inners all)
  inners_has [] inner i = absurd i
  inners_has (occurrence.Run a ∷ later) inner (inl same) = absurd (not_both same)
    where
      not_both : {a b : ℕ} → occurrence.Run a ≡ occurrence.Post b → ⊥
      not_both e = cc
  inners_has (occurrence.Run a ∷ later) inner (inr i) = inners_has later inner i
  inners_has (occurrence.Post b ∷ later) inner (inl same) = inl (one_list same)
    where
      one_list : {a b : ℕ} → occurrence.Post a ≡ occurrence.Post b → a ≡ b
      one_list e = cc
  inners_has (occurrence.Post b ∷ later) inner (inr i) = inr (inners_has later inner i)

  pub inners_is : (all : List Occurrence) (inner : ℕ) → In inner (inners all) → In (occurrence.Post inner) all
  inners_is [] inner i = absurd i
  inners_is (occurrence.Run a ∷ later) inner i = inr (inners_is later inner i)
  inners_is (occurrence.Post b ∷ later) inner (inl same) = inl (ap (λ z. occurrence.Post z) same)
  inners_is (occurrence.Post b ∷ later) inner (inr i) = inr (inners_is later inner i)

  -- ---- the lists that posts lead to

  module _ (law : IsLawful site) (scope : Scope) (first : ℕ) (low : first < length (plan_at site relay).lists) where
    abbrev many : ℕ
    many = length (plan_at site relay).lists

    abbrev next : ℕ → List ℕ
    next list = inners (executes scope list)

    abbrev LeadsAsFirst : ℕ → Type 0
    LeadsAsFirst list = (k : ℕ) (to : SiteInput) → Reaches site class scope relay list k to → (j : ℕ) × Reaches site class scope relay first j to

    record Seen (lists : List ℕ) : Type 0 where
      pub apart : AreApart many lists
      pub has : Contains lists first
      pub sound : (x : ℕ) → Contains lists x → LeadsAsFirst x

    record Closed : Type 0 where
      pub lists : List ℕ
      pub has : Contains lists first
      pub sound : (x : ℕ) → Contains lists x → LeadsAsFirst x
      pub closed : (x y : ℕ) → Contains lists x → In y (next x) → Contains lists y

    record Longer (lists : List ℕ) : Type 0 where
      pub new : ℕ
      pub room : length lists < many
      pub seen : Seen (lists ++ new ∷ [])

    abbrev is_new : List ℕ → ℕ → Bool
    is_new lists y = not (list_any (eqb y) lists)

    had : (lists : List ℕ) (y : ℕ) → (b : Bool) → list_any (eqb y) lists ≡ b → (is_new lists y ≡ true → ⊥) → Contains lists y
    had lists y true is none = Contains-from_any (λ a b e. eqb-true a b e) y lists is
    had lists y false is none = absurd (none (ap not is))

    fresh : (lists : List ℕ) (y : ℕ) → is_new lists y ≡ true → Contains lists y → ⊥
    fresh lists y new there = false≢true (sym (not_false (list_any (eqb y) lists) new) ∙ list_any-from_Contains nat_eq_equiv y lists there)

    more_seen : (lists : List ℕ) → Seen lists → (x y : ℕ) → Contains lists x → In y (next x) → (Contains lists y → ⊥) → Longer lists
    more_seen lists seen x y there i none =
        let does = executes_is scope x (occurrence.Post y) (inners_is (executes scope x) y i) in
        let below = posted_there site law relay x does.0 y does.1.found in
        record {
          new = y;
          room = apart_room many lists y seen.apart none below;
          seen = record {
            apart = more_apart many lists y seen.apart none below;
            has = Contains-append_left lists (y ∷ []) first seen.has;
            sound = λ z is. elim (Contains-push_cases lists y z is) [
              | inl before ↦ seen.sound z before
              | inr here ↦ subst LeadsAsFirst here (λ k to r. seen.sound x there does.0 to (posts does.0 y k does.1 r))
            ];
          };
        }

    look : (lists : List ℕ) → Seen lists → (b : Bool) → some (is_new lists) (flat next lists) ≡ b → Closed ⊎ Longer lists
    look lists seen true e =
        let f = some_is (is_new lists) (flat next lists) e in
        let g = flat_is next lists f.0 f.1 in
        inr (more_seen lists seen g.0 f.0 (of_list lists g.0 g.1) g.2 (fresh lists f.0 f.2))
    look lists seen false e = inl (record {
      lists = lists;
      has = seen.has;
      sound = seen.sound;
      closed = λ x y there i. had lists y (list_any (eqb y) lists) refl
          (λ new. false≢true (sym e ∙ some_has (is_new lists) (flat next lists) y
          (flat_has next lists x y (in_list lists x there.0 there.1 there.2) i) new));
    })

    close : (n : ℕ) (lists : List ℕ) → Seen lists → many ≤ length lists + n → Closed
    close ℕ.zero lists seen most = elim (look lists seen (some (is_new lists) (flat next lists)) refl) [
      | inl c ↦ c
      | inr more ↦ let room = more.room in absurd (omega (arith, most, room))
    ]
    close (ℕ.suc n) lists seen most = elim (look lists seen (some (is_new lists) (flat next lists)) refl) [
      | inl c ↦ c
      | inr more ↦ let l = length_push lists more.new in close n (lists ++ more.new ∷ []) more.seen (omega (arith, most, l))
    ]

    no_list : Contains [] first → ⊥
    no_list (k, below, is) = absurd (omega (arith, below))

    all : Closed
    all = close many ([] ++ first ∷ [])
        (record {
          apart = more_apart many [] first (none_apart many) no_list low;
          has = Contains-push [] first;
          sound = λ x is. elim (Contains-push_cases [] first x is) [
            | inl before ↦ let (k, below, same) = before in absurd (omega (arith, below))
            | inr here ↦ subst LeadsAsFirst here (λ k to r. (k, r))
          ];
        })
        (omega arith)

    abbrev leads : ℕ → List SiteInput
    leads list = targets (executes scope list)

    leads_has : (list k : ℕ) (to : SiteInput) → Reaches site class scope relay list k to → Contains all.lists list → In to (flat leads all.lists)
    leads_has list k to (forwards at action does is) there =
        flat_has leads all.lists list to (in_list all.lists list there.0 there.1 there.2)
        (targets_has (executes scope list) action to (executes_has scope list at (occurrence.Run action) does) is)
    leads_has list k to (posts at inner j does later) there =
        leads_has inner j to later
        (all.closed list inner there (inners_has (executes scope list) inner (executes_has scope list at (occurrence.Post inner) does)))

    leads_is : (to : SiteInput) → In to (flat leads all.lists) → (k : ℕ) × Reaches site class scope relay first k to
    leads_is to i =
        let f = flat_is leads all.lists to i in
        let t = targets_is (executes scope f.0) to f.2 in
        let does = executes_is scope f.0 (occurrence.Run t.0) t.1 in
        all.sound f.0 (of_list all.lists f.0 f.1) does.0 to (forwards does.0 t.0 does.1 t.2)

  -- ---- all of it

  pub record Next (scope : Scope) (list : ℕ) : Type 0 where
    pub found : List SiteInput
    pub has : (k : ℕ) (to : SiteInput) → Reaches site class scope relay list k to → In to found
    pub is : (to : SiteInput) → In to found → (k : ℕ) × Reaches site class scope relay list k to

  -- a list with an occurrence is there
  reaching_there : (scope : Scope) (list k : ℕ) (to : SiteInput) → Reaches site class scope relay list k to → list < length (plan_at site relay).lists
  reaching_there scope list k to (forwards at action does leads) = list_of_found site relay list at (occurrence.Run action) does.found
  reaching_there scope list k to (posts at inner j does later) = list_of_found site relay list at (occurrence.Post inner) does.found

  pub next_of : IsLawful site → (scope : Scope) (list : ℕ) → Next scope list
  next_of law scope list = elim (cases_lt list (length (plan_at site relay).lists)) [
    | inl low ↦ record {
      found = flat (leads law scope list low) (all law scope list low).lists;
      has = λ k to r. leads_has law scope list low list k to r (all law scope list low).has;
      is = leads_is law scope list low;
    }
    | inr high ↦ record {
      found = [];
      has = λ k to r. (let low = reaching_there scope list k to r in absurd (omega (arith, low, high)));
      is = λ to i. absurd i;
    }
  ]
