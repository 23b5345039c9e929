-- Where what must be executed leads from list to list, and what is found so.
use Rattle.std.proofs.Common.{◌≡◌, ℕ, suc, ◌<◌, ◌≤◌, ◌+◌, ◌*◌, ◌==◌, ◌&&◌, ◌||◌, Bool, true, false, List, [], ◌∷◌, ◌++◌, length, map, get_or, Option, Some, None, refl, sym, ap, subst, ◌∙◌, arith, inl, inr, eqb-true, eq-eqb, append-nil, append_assoc}
use Rattle.std.specs.Prelude.{Contains, ◌⊎◌, option_map, slice_get}
use Rattle.std.specs.Cmp.{IsEquivalence}
use Rattle.std.specs.List.{AllByRecursion, IsDistinct, list_any}
use Rattle.std.proofs.lemmas.Bool.{cases_eq, cases_lt, false≢true, ne_eqb}
use Rattle.std.proofs.lemmas.Cmp.{nat_eq_equiv}
use Rattle.std.proofs.lemmas.List.{length-append, length-map}
use Rattle.std.proofs.lemmas.List.Elements.{Contains-append_left, Contains-push, Contains-push_cases}
use Rattle.std.proofs.lemmas.Map.Keys.{IsDistinct-push}
use Rattle.std.proofs.lemmas.Map.Steps.{length-le_from_distinct_below}
use Rattle.std.proofs.lemmas.Map.Views.{Contains-from_any, list_any-from_Contains}
use Rattle.std.proofs.lemmas.Option.{slice_get-get_or, slice_get_within}
use Rattle.sy_wire.specs.declared.class.Class.{Class}
use Rattle.sy_rules.specs.declared.lists.occurrence.Occurrence.{Occurrence}
use Rattle.sy_rules.specs.declared.lists.occurrence.Occurrence.TheVariants as occurrence
use Rattle.sy_rules.specs.declared.parameters.settings.FlowControl.TheVariants as control
use Rattle.sy_rules.specs.declared.parts.Input.{Input}
use Rattle.sy_site.specs.declared.site.SiteInput.{SiteInput}
use Rattle.sy_site.specs.Sites.{Site, plan_at, target}
use Rattle.sy_site.specs.machine.Lawful.{IsInput, IsLawful}
use Rattle.sy_site.specs.machine.Reach.{MustDo, list_of, occurrence_at}
use Rattle.sy_flows.specs.declared.flows.executed.Executed.TheVariants as executed
use Rattle.sy_flows.specs.declared.lists.FoundLists.{FoundLists}
use Rattle.sy_flows.specs.declared.lists.ListOrigin.{ListOrigin}
use Rattle.sy_flows.specs.declared.lists.InnerList.{InnerList}
use Rattle.sy_flows.specs.internal.Alike.{AreAlike}
use Rattle.sy_flows.specs.Flows.{IsSet}
use Rattle.sy_flows.specs.Members.{HasNoneFrom, IsNextIn}
use Rattle.sy_flows.specs.Leads.{AreAllFound, AreFound, AreLeads, IsLed, IsListOrigin, IsThere, MustLead, lead_in, lead_of, leads_on, list_at, same_list, target_list}
use Rattle.sy_flows.specs.internal.Leads.{HasMore}
use Rattle.sy_flows.proofs.Places.{at_place}
use Rattle.sy_flows.proofs.Gone.{stands_in, whole_there}
use Rattle.sy_flows.proofs.Rooted.{last_place, same_place, stood}
use Rattle.sy_flows.proofs.There.{place_there, relay_there, target_there}
use Rattle.sy_flows.proofs.Used.{input_list, input_used, posted_there, posted_used, relay_of, whole_at}

no_value : {A : Type 0} {x : A} → None ≡ Some x → ⊥
no_value e = cc

one_value : {A : Type 0} {x y : A} → Some x ≡ Some y → x ≡ y
one_value e = cc

-- ---- lists are the same by their numbers

first_true : (a b : Bool) → (a && b) ≡ true → a ≡ true
first_true true b e = refl
first_true false b e = e

second_true : (a b : Bool) → (a && b) ≡ true → b ≡ true
second_true true b e = e
second_true false b e = absurd (false≢true e)

pub same_list_is : (a b : InnerList) → same_list a b ≡ true → a ≡ b
same_list_is a b e =
    let relay = eqb-true a.relay b.relay (first_true (a.relay == b.relay) (a.list == b.list) e) in
    let list = eqb-true a.list b.list (second_true (a.relay == b.relay) (a.list == b.list) e) in
    λ i. record { relay = relay i; list = list i }

pub same_list_laws : IsEquivalence same_list
same_list_laws = record {
  refl = λ a. rw (eq-eqb a.relay a.relay refl, eq-eqb a.list a.list refl) refl;
  symm = λ a b. ap (λ x. x && (a.list == b.list)) (nat_eq_equiv.symm a.relay b.relay)
      ∙ ap (λ x. (b.relay == a.relay) && x) (nat_eq_equiv.symm a.list b.list);
  congr = λ a b c e. ap (λ x. same_list x c) (same_list_is a b e);
}

-- ---- lists that are there

pub list_there : (site : Site) → IsLawful site → (input : SiteInput) → IsInput site input → IsThere site (list_at site input)
list_there site law input is =
    let plan = plan_at site input.relay in
    let whole = whole_there site law input is in
    let none : Input = record { port = 0; flow = control.Off; list = 0; queue = 0; unread_file = None } in
    let low = whole.input_lists input.input none (place_there site input is) in
    let most = whole.rulesets_before in
    record {
      relay = relay_there site input is;
      list = omega (arith, low, most);
      used = input_used plan (list_of site input) (input_list site input is);
    }

pub inner_there : (site : Site) → IsLawful site → (relay list number inner : ℕ) → occurrence_at site relay list number ≡ Some (occurrence.Post inner)
    → IsThere site (record { relay = relay; list = inner })
inner_there site law relay list number inner here = record {
  relay = relay_of site relay list number (occurrence.Post inner) here;
  list = posted_there site law relay list number inner here;
  used = posted_used site law relay list number inner here;
}

target_by : (site : Site) → IsLawful site → (found : Option SiteInput) → ((input : SiteInput) → found ≡ Some input → IsInput site input)
    → (to : InnerList) → option_map (list_at site) found ≡ Some to → IsThere site to
target_by site law None is to e = absurd (no_value e)
target_by site law (Some input) is to e = subst (IsThere site) (one_value e) (list_there site law input (is input refl))

lead_there_by : (site : Site) → IsLawful site → (relay list number : ℕ) (is : Occurrence) → occurrence_at site relay list number ≡ Some is
    → (to : InnerList) → leads_on site relay is ≡ Some to → IsThere site to
lead_there_by site law relay list number (occurrence.Post inner) here to e =
    subst (IsThere site) (one_value e) (inner_there site law relay list number inner here)
lead_there_by site law relay list number (occurrence.Run action) here to e =
    target_by site law (target site (record { relay = relay; action = action }))
    (λ input goes. target_there site (slice_get (plan_at site relay).actions action) input goes) to e

lead_in_there : (site : Site) → IsLawful site → (at : InnerList) (number : ℕ) (found : Option Occurrence) → occurrence_at site at.relay at.list number ≡ found
    → (to : InnerList) → lead_in site at.relay found ≡ Some to → IsThere site to
lead_in_there site law at number None here to e = absurd (no_value e)
lead_in_there site law at number (Some is) here to e = lead_there_by site law at.relay at.list number is here to e

pub lead_there : (site : Site) → IsLawful site → (at : InnerList) (number : ℕ) (to : InnerList) → lead_of site at number ≡ Some to → IsThere site to
lead_there site law at number to e = lead_in_there site law at number (occurrence_at site at.relay at.list number) refl to e

-- ---- where an occurrence leads

pub lead_so : (site : Site) (class : Class) (at : InnerList) (number : ℕ) (to : InnerList) → MustLead site class at number to
    → lead_of site at number ≡ Some to
lead_so site class at number to must = ap (lead_in site at.relay) must.does.found ∙ must.leads

pub one_lead : (site : Site) (class : Class) (at : InnerList) (number : ℕ) (a b : InnerList) → MustLead site class at number a
    → MustLead site class at number b → a ≡ b
one_lead site class at number a b x y = one_value (sym (lead_so site class at number a x) ∙ lead_so site class at number b y)

pub must_lead_there : (site : Site) → IsLawful site → (class : Class) (at : InnerList) (number : ℕ) (to : InnerList) → MustLead site class at number to
    → IsThere site to
must_lead_there site law class at number to must = lead_there site law at number to (lead_so site class at number to must)

lead_by : (site : Site) (class : Class) (at : InnerList) (number : ℕ) → ((is : Occurrence) → occurrence_at site at.relay at.list number ≡ Some is
    → MustDo site class at.relay at.list number is) → (found : Option Occurrence) → occurrence_at site at.relay at.list number ≡ found → (to : InnerList)
    → lead_in site at.relay found ≡ Some to → MustLead site class at number to
lead_by site class at number does None here to e = absurd (no_value e)
lead_by site class at number does (Some is) here to e = record { is = is; does = does is here; leads = e }

pub it_leads : (site : Site) (class : Class) (at : InnerList) (number : ℕ) → ((is : Occurrence) → occurrence_at site at.relay at.list number ≡ Some is
    → MustDo site class at.relay at.list number is) → (to : InnerList) → lead_of site at number ≡ Some to → MustLead site class at number to
it_leads site class at number does to e = lead_by site class at number does (occurrence_at site at.relay at.list number) refl to e

-- ---- few lists

code : InnerList → ℕ
code x = 513 * x.relay + x.list

abbrev IsSmall : InnerList → Type 0
IsSmall x = (x.relay < 64) × (x.list < 513)

is_small : (site : Site) → IsLawful site → (x : InnerList) → IsThere site x → IsSmall x
is_small site law x is =
    let relay = is.relay in
    let few = law.few in
    let list = is.list in
    let most = (whole_at site law x.relay is.relay).lists_most in
    (omega (arith, relay, few), omega (arith, list, most))

codes_differ : (x y : InnerList) → IsSmall x → IsSmall y → same_list x y ≡ false → (code x == code y) ≡ false
unfolding code
codes_differ x y small_x small_y apart =
    let x0 = small_x.0 in
    let x1 = small_x.1 in
    let y0 = small_y.0 in
    let y1 = small_y.1 in
    elim (cases_eq (513 * x.relay + x.list) (513 * y.relay + y.list)) [
      | inl same ↦
          let relays : x.relay ≡ y.relay = omega (arith, same, x0, x1, y0, y1) in
          let lists : x.list ≡ y.list = omega (arith, same, relays) in
          let is_same : same_list x y ≡ true = rw (eq-eqb x.relay y.relay relays, eq-eqb x.list y.list lists) refl in
          absurd (false≢true (sym apart ∙ is_same))
      | inr other ↦ ne_eqb (513 * x.relay + x.list) (513 * y.relay + y.list) other
    ]

all_apart : (x : InnerList) (xs : List InnerList) → IsSmall x → ((y : InnerList) → Contains xs y → IsSmall y)
    → AllByRecursion (λ y. same_list x y ≡ false) xs → AllByRecursion (λ n. (code x == n) ≡ false) (map code xs)
all_apart x [] small each apart = tt
all_apart x (y ∷ ys) small each apart = (
  codes_differ x y small (each y (0, omega arith, refl)) apart.0,
  all_apart x ys small (λ z there. each z (suc there.0, omega (arith, there.1), there.2)) apart.1,
)

codes_distinct : (xs : List InnerList) → ((y : InnerList) → Contains xs y → IsSmall y) → IsDistinct same_list xs
    → IsDistinct (λ m n. m == n) (map code xs)
unfolding IsDistinct
codes_distinct [] each d = tt
codes_distinct (x ∷ xs) each d = (
  all_apart x xs (each x (0, omega arith, refl)) (λ z there. each z (suc there.0, omega (arith, there.1), there.2)) d.0,
  codes_distinct xs (λ z there. each z (suc there.0, omega (arith, there.1), there.2)) d.1,
)

code_below : (x : InnerList) → IsSmall x → code x < 32832
unfolding code
code_below x small = let a = small.0 in let b = small.1 in omega (arith, a, b)

either : (a b : Bool) → (a || b) ≡ true → (a ≡ true) ⊎ (b ≡ true)
either true b e = inl refl
either false b e = inr e

codes_below : (xs : List InnerList) → ((y : InnerList) → Contains xs y → IsSmall y) → (q : ℕ) → list_any (λ n. q == n) (map code xs) ≡ true → q < 32832
codes_below [] each q e = absurd (false≢true e)
codes_below (x ∷ xs) each q e =
    elim (either (q == code x) (list_any (λ n. q == n) (map code xs)) e) [
      | inl here ↦
          let same = eqb-true q (code x) here in
          let low = code_below x (each x (0, omega arith, refl)) in
          omega (arith, same, low)
      | inr later ↦ codes_below xs (λ z there. each z (suc there.0, omega (arith, there.1), there.2)) q later
    ]

pub few_lists : (site : Site) → IsLawful site → (found : List InnerList) → IsDistinct same_list found
    → ((x : InnerList) → Contains found x → IsThere site x) → length found ≤ 32832
few_lists site law found distinct each =
    let small = λ (y : InnerList) (there : Contains found y). is_small site law y (each y there) in
    let most = length-le_from_distinct_below (map code found) 32832 (codes_distinct found small distinct) (codes_below found small) in
    subst (λ n. n ≤ 32832) (length-map found code) most

-- ---- what is put

pub not_in_lists : (found : List InnerList) (x : InnerList) → list_any (same_list x) found ≡ false → Contains found x → ⊥
not_in_lists found x none there = false≢true (sym none ∙ list_any-from_Contains same_list_laws x found there)

pub nothing_more : (old : List InnerList) → HasMore old old
nothing_more old = record { more = []; whole = sym (append-nil old) }

pub one_more : (old : List InnerList) (x : InnerList) → HasMore old (old ++ x ∷ [])
one_more old x = record { more = x ∷ []; whole = refl }

pub more_behind : (old mid new : List InnerList) → HasMore old mid → HasMore mid new → HasMore old new
more_behind old mid new first second = record {
  more = first.more ++ second.more;
  whole = second.whole ∙ ap (λ l. l ++ second.more) first.whole ∙ append_assoc old first.more second.more;
}

pub kept_more : (old new : List InnerList) → HasMore old new → (x : InnerList) → Contains old x → Contains new x
kept_more old new more x there = subst (λ l. Contains l x) (sym more.whole) (Contains-append_left old more.more x there)

pub stands_more : (old new : List InnerList) → HasMore old new → (place : ℕ) (x : InnerList) → slice_get old place ≡ Some x → slice_get new place ≡ Some x
stands_more old new more place x is =
    ap (λ l. slice_get l place) more.whole ∙ same_place old more.more place (slice_get_within old place x is) ∙ is

origin_stays : (site : Site) (class : Class) (start : InnerList) (found new : List InnerList) → HasMore found new → (place : ℕ) (to : InnerList)
    (origin : Option ListOrigin) → IsListOrigin site class start found place to origin → IsListOrigin site class start new place to origin
origin_stays site class start found new more place to None is = is
origin_stays site class start found new more place to (Some o) is = (is.0, is.1, stands_more found new more o.place is.1 is.2, is.3, is.4)

module _ (site : Site) (class : Class) (start : InnerList) where
  pub found_first : IsThere site start → AreFound site class start (start ∷ []) (None ∷ [])
  unfolding IsDistinct
  found_first there = record {
    there = λ x is. subst (IsThere site) (one x is) there;
    starts = (0, omega arith, refl);
    distinct = (tt, tt);
    many = refl;
    each = λ place to origin here from. first place to origin here from;
  }
    where
      one : (x : InnerList) → Contains (start ∷ []) x → start ≡ x
      one x (ℕ.zero, low, is) = is
      one x (ℕ.suc k, low, is) = absurd (omega (arith, low))

      first : (place : ℕ) (to : InnerList) (origin : Option ListOrigin) → slice_get (start ∷ []) place ≡ Some to
          → slice_get (None ∷ []) place ≡ Some origin → IsListOrigin site class start (start ∷ []) place to origin
      first ℕ.zero to origin here from = subst (IsListOrigin site class start (start ∷ []) 0 to) (one_value from) (one_value here)
      first (ℕ.suc place) to origin here from = absurd (no_value here)

  pub found_more : (found : List InnerList) (origins : List (Option ListOrigin)) (x : InnerList) (origin : ListOrigin)
      → AreFound site class start found origins → IsThere site x → IsListOrigin site class start found (length found) x (Some origin)
      → list_any (same_list x) found ≡ false → AreFound site class start (found ++ x ∷ []) (origins ++ Some origin ∷ [])
  found_more found origins x origin are there is fresh =
      let many = are.many in
      let longer = length-append found (x ∷ []) in
      let origins_longer = length-append origins (Some origin ∷ []) in
      record {
        there = λ y has. elim (Contains-push_cases found x y has) [
          | inl before ↦ are.there y before
          | inr here ↦ subst (IsThere site) here there
        ];
        starts = Contains-append_left found (x ∷ []) start are.starts;
        distinct = IsDistinct-push same_list_laws found x are.distinct fresh;
        many = omega (arith, many, longer, origins_longer);
        each = λ place to o here from. origin_stays site class start found (found ++ x ∷ []) (one_more found x) place to o
            (each_of place to o (stood found x place to here) (stood origins (Some origin) place o from));
      }
    where
      each_of : (place : ℕ) (to : InnerList) (o : Option ListOrigin) → (slice_get found place ≡ Some to) ⊎ ((place ≡ length found) × (to ≡ x))
          → (slice_get origins place ≡ Some o) ⊎ ((place ≡ length origins) × (o ≡ Some origin)) → IsListOrigin site class start found place to o
      each_of place to o (inl here) (inl from) = are.each place to o here from
      each_of place to o (inr here) (inr from) =
          subst (λ p. IsListOrigin site class start found p to o) (sym here.0)
          (subst (λ y. IsListOrigin site class start found (length found) y o) (sym here.1)
          (subst (IsListOrigin site class start found (length found) x) (sym from.1) is))
      each_of place to o (inl here) (inr from) =
          let low = slice_get_within found place to here in
          let same = from.0 in
          let many = are.many in
          absurd (omega (arith, low, same, many))
      each_of place to o (inr here) (inl from) =
          let low = slice_get_within origins place o from in
          let same = here.0 in
          let many = are.many in
          absurd (omega (arith, low, same, many))

  -- the origin of what is found at a place
  pub origin_at : (found : List InnerList) (origins : List (Option ListOrigin)) → AreFound site class start found origins → (place : ℕ) (x : InnerList)
      → slice_get found place ≡ Some x → (origin : Option ListOrigin) × IsListOrigin site class start found place x origin
  origin_at found origins are place x is =
      let many = are.many in
      let within = slice_get_within found place x is in
      let low : place < length origins = omega (arith, many, within) in
      (get_or origins place None, are.each place x (get_or origins place None) is (slice_get-get_or origins place None low))

-- ---- all that is led to

-- of so many that are found
abbrev pub AreLed : Site → Class → List InnerList → ℕ → Type 0
AreLed site class found done = (j : ℕ) (from : InnerList) → j < done → slice_get found j ≡ Some from → IsLed site class found from

pub none_led : (site : Site) (class : Class) (found : List InnerList) → AreLed site class found 0
none_led site class found j from low is = absurd (omega (arith, low))

pub more_led : (site : Site) (class : Class) (old new : List InnerList) (done : ℕ) (from : InnerList) → slice_get old done ≡ Some from → HasMore old new
    → AreLed site class old done → IsLed site class new from → AreLed site class new (done + 1)
more_led site class old new done from here more before led j x low is number to must =
    let within = slice_get_within old done from here in
    elim (cases_eq j done) [
      | inl same ↦
          let at : slice_get new done ≡ Some x = subst (λ k. slice_get new k ≡ Some x) same is in
          let it : x ≡ from = one_value (sym at ∙ stands_more old new more done from here) in
          led number to (subst (λ z. MustLead site class z number to) it must)
      | inr apart ↦
          let earlier : j < done = omega (arith, low, apart) in
          let still : slice_get new j ≡ slice_get old j =
          ap (λ l. slice_get l j) more.whole ∙ same_place old more.more j (omega (arith, earlier, within)) in
          kept_more old new more to (before j x earlier (sym still ∙ is) number to must)
    ]

pub all_led : (site : Site) (class : Class) (start : InnerList) (found : List InnerList) (origins : List (Option ListOrigin)) (done : ℕ)
    → length found ≤ done → AreFound site class start found origins → AreLed site class found done → AreAllFound site class start found origins
all_led site class start found origins done all are led = record {
  are = are;
  closed = λ from is.
      (let at = at_place found from is in
      let within = slice_get_within found at.0 from at.1 in
      led at.0 from (omega (arith, within, all)) at.1);
}

-- of those occurrences below a number
abbrev pub IsLedBelow : Site → Class → List InnerList → InnerList → ℕ → Type 0
IsLedBelow site class found from most = (number : ℕ) (to : InnerList) → number < most → MustLead site class from number to → Contains found to

module _ (site : Site) (class : Class) (from : InnerList) (must : ℕ) (set : IsSet site class executed.Must from.relay from.list must) where
  pub led_more : (old new : List InnerList) → HasMore old new → (next number : ℕ) → IsNextIn must next number → IsLedBelow site class old from next
      → ((to : InnerList) → MustLead site class from number to → Contains new to) → IsLedBelow site class new from (number + 1)
  led_more old new more next number is before here k to low lead = elim (cases_eq k number) [
    | inl same ↦ here to (subst (λ j. MustLead site class from j to) same lead)
    | inr apart ↦ elim (cases_lt k next) [
      | inl earlier ↦ kept_more old new more to (before k to earlier lead)
      | inr behind ↦ absurd (is.lowest k behind (omega (arith, low, apart)) (set.whole k lead.is lead.does))
    ]
  ]

  pub led_all : (found : List InnerList) (next : ℕ) → HasNoneFrom must next → IsLedBelow site class found from next → IsLed site class found from
  led_all found next none before k to lead = elim (cases_lt k next) [
    | inl earlier ↦ before k to earlier lead
    | inr behind ↦ absurd (none k behind (set.whole k lead.is lead.does))
  ]

-- ---- classes that execute the same

module _ (site : Site) (one other : Class) (same : AreAlike site one other) where
  lead_as : (at : InnerList) → IsThere site at → (number : ℕ) (to : InnerList) → MustLead site one at number to → MustLead site other at number to
  lead_as at there number to must = record {
    is = must.is;
    does = (same executed.Must at.relay at.list number must.is there.used).0 must.does;
    leads = must.leads;
  }

  back_as : (at : InnerList) → IsThere site at → (number : ℕ) (to : InnerList) → MustLead site other at number to → MustLead site one at number to
  back_as at there number to must = record {
    is = must.is;
    does = (same executed.Must at.relay at.list number must.is there.used).1 must.does;
    leads = must.leads;
  }

  origin_as : (start : InnerList) (found : List InnerList) → ((x : InnerList) → Contains found x → IsThere site x) → (place : ℕ) (to : InnerList)
      (origin : Option ListOrigin) → IsListOrigin site one start found place to origin → IsListOrigin site other start found place to origin
  origin_as start found all place to None is = is
  origin_as start found all place to (Some o) is =
      (is.0, is.1, is.2, is.3, lead_as is.1 (all is.1 (stands_in_lists found o.place is.1 is.2)) o.number to is.4)
    where
      stands_in_lists : (xs : List InnerList) (k : ℕ) (x : InnerList) → slice_get xs k ≡ Some x → Contains xs x
      stands_in_lists xs k x s = (k, slice_get_within xs k x s, sym (one_value (sym s ∙ slice_get-get_or xs k x (slice_get_within xs k x s))))

  found_as : (start : InnerList) (found : List InnerList) (origins : List (Option ListOrigin)) → AreAllFound site one start found origins
      → AreAllFound site other start found origins
  found_as start found origins all = record {
    are = record {
      there = all.are.there;
      starts = all.are.starts;
      distinct = all.are.distinct;
      many = all.are.many;
      each = λ place to origin here from. origin_as start found all.are.there place to origin (all.are.each place to origin here from);
    };
    closed = λ from is number to must. all.closed from is number to (back_as from (all.are.there from is) number to must);
  }

  pub leads_as : (leads : List FoundLists) → AreLeads site one leads → AreLeads site other leads
  leads_as leads are = record {
    length_is = are.length_is;
    each = λ place found stands entry at.
        found_as (list_at site entry) found.lists.items found.origins.items (are.each place found stands entry at);
  }
