-- Lists that messages come to, found one after another.
use Rattle.std.proofs.Common.{◌≡◌, ℕ, suc, ◌<◌, ◌≤◌, ◌+◌, ◌*◌, ◌==◌, ◌&&◌, ◌||◌, Bool, true, false, List, [], ◌∷◌, ◌++◌, length, map, get_or, set, replicate, Option, Some, None, refl, sym, ap, subst, ◌∙◌, arith, inl, inr, eqb-true, eq-eqb, append-nil, append_assoc}
use Rattle.std.specs.Prelude.{Contains, ◌⊎◌, option_map, slice_get}
use Rattle.std.specs.Cmp.{IsEquivalence}
use Rattle.std.specs.List.{AllByRecursion, IsDistinct, list_any}
use Rattle.std.proofs.lemmas.Bool.{cases_eq, cases_lt, false≢true, ne_eqb}
use Rattle.std.proofs.lemmas.Cmp.{nat_eq_equiv}
use Rattle.std.proofs.lemmas.Grind.{get_or-set_at}
use Rattle.std.proofs.lemmas.List.{get_or-replicate, get_or-set_other, length-append, length-map, length-replicate, length-set}
use Rattle.std.proofs.lemmas.List.Elements.{Contains-append_left, Contains-push, Contains-push_cases}
use Rattle.std.proofs.lemmas.Map.Keys.{IsDistinct-push}
use Rattle.std.proofs.lemmas.Map.Steps.{length-le_from_distinct_below}
use Rattle.std.proofs.lemmas.Map.Views.{Contains-from_any, list_any-from_Contains}
use Rattle.std.proofs.lemmas.Option.{slice_get-get_or, slice_get_within}
use Rattle.sy_wire.specs.declared.class.Class.{Class}
use Rattle.sy_rules.specs.declared.lists.occurrence.Occurrence.{Occurrence}
use Rattle.sy_rules.specs.declared.lists.occurrence.Occurrence.TheVariants as occurrence
use Rattle.sy_rules.specs.declared.parameters.settings.FlowControl.TheVariants as control
use Rattle.sy_rules.specs.declared.parts.Input.{Input}
use Rattle.sy_board.specs.relay.Plans.{occurrences_at}
use Rattle.sy_board.proofs.relay.Bounds.{occurrences_few}
use Rattle.sy_site.specs.declared.site.SiteInput.{SiteInput}
use Rattle.sy_site.specs.Sites.{Site, plan_at, target}
use Rattle.sy_site.specs.machine.Lawful.{IsInput, IsLawful}
use Rattle.sy_site.specs.machine.Reach.{list_of, occurrence_at}
use Rattle.sy_warnings.specs.declared.following.Following.{Following}
use Rattle.sy_warnings.specs.declared.following.SiteList.{SiteList}
use Rattle.sy_warnings.specs.Following.{Comes, IsStart, Leads, leads_on, list_at, onward, starts}
use Rattle.sy_warnings.specs.internal.Following.{AreFound, AreMarks, HasMore, IsLed, IsMarked, IsThere, mark_of, same_list}
use Rattle.sy_flows.proofs.There.{place_there, relay_there, target_there}
use Rattle.sy_flows.proofs.Used.{posted_there, relay_of, whole_at}

pub no_value : {A : Type 0} {x : A} → None ≡ Some x → ⊥
no_value e = cc

pub one_value : {A : Type 0} {x y : A} → Some x ≡ Some y → x ≡ y
one_value e = cc

-- ---- lists are the same by their numbers

first_true : (a b : Bool) → (a && b) ≡ true → a ≡ true
first_true true b e = refl
first_true false b e = e

second_true : (a b : Bool) → (a && b) ≡ true → b ≡ true
second_true true b e = e
second_true false b e = absurd (false≢true e)

pub same_list_is : (a b : SiteList) → same_list a b ≡ true → a ≡ b
same_list_is a b e =
    let relay = eqb-true a.relay b.relay (first_true (a.relay == b.relay) (a.list == b.list) e) in
    let list = eqb-true a.list b.list (second_true (a.relay == b.relay) (a.list == b.list) e) in
    λ i. record { relay = relay i; list = list i }

pub same_list_laws : IsEquivalence same_list
same_list_laws = record {
  refl = λ a. rw (eq-eqb a.relay a.relay refl, eq-eqb a.list a.list refl) refl;
  symm = λ a b. ap (λ x. x && (a.list == b.list)) (nat_eq_equiv.symm a.relay b.relay)
      ∙ ap (λ x. (b.relay == a.relay) && x) (nat_eq_equiv.symm a.list b.list);
  congr = λ a b c e. ap (λ x. same_list x c) (same_list_is a b e);
}

-- ---- lists that are there

pub list_there : (site : Site) → IsLawful site → (input : SiteInput) → IsInput site input → IsThere site (list_at site input)
list_there site law input is =
    let whole = whole_at site law input.relay (relay_there site input is) in
    let none : Input = record { port = 0; flow = control.Off; list = 0; queue = 0; unread_file = None } in
    let low = whole.input_lists input.input none (place_there site input is) in
    let most = whole.rulesets_before in
    record { relay = relay_there site input is; list = omega (arith, low, most) }

target_by : (site : Site) → IsLawful site → (found : Option SiteInput) → ((input : SiteInput) → found ≡ Some input → IsInput site input)
    → (to : SiteList) → option_map (list_at site) found ≡ Some to → IsThere site to
target_by site law None is to e = absurd (no_value e)
target_by site law (Some input) is to e = subst (IsThere site) (one_value e) (list_there site law input (is input refl))

pub lead_there : (site : Site) → IsLawful site → (relay list number : ℕ) (is : Occurrence) → occurrence_at site relay list number ≡ Some is
    → (to : SiteList) → leads_on site relay is ≡ Some to → IsThere site to
lead_there site law relay list number (occurrence.Post inner) here to e =
    subst (IsThere site) (one_value e)
    (record { relay = relay_of site relay list number (occurrence.Post inner) here; list = posted_there site law relay list number inner here })
lead_there site law relay list number (occurrence.Run action) here to e =
    target_by site law (target site (record { relay = relay; action = action }))
    (λ input goes. target_there site (slice_get (plan_at site relay).actions action) input goes) to e

pub leads_there : (site : Site) → IsLawful site → (class : Class) (by : Following) (from : SiteList) (number : ℕ) (to : SiteList)
    → Leads site class by from number to → IsThere site to
leads_there site law class by from number to leads = lead_there site law from.relay from.list number leads.is leads.does.found to leads.leads

-- ---- few lists

code : SiteList → ℕ
code x = 513 * x.relay + x.list

pub codes_apart : (x y : SiteList) → (x.relay < 64) × (x.list < 513) → (y.relay < 64) × (y.list < 513) → mark_of x ≡ mark_of y → x ≡ y
codes_apart x y small_x small_y same =
    let x0 = small_x.0 in
    let x1 = small_x.1 in
    let y0 = small_y.0 in
    let y1 = small_y.1 in
    let relays : x.relay ≡ y.relay = omega (arith, same, x0, x1, y0, y1) in
    let lists : x.list ≡ y.list = omega (arith, same, relays) in
    λ i. record { relay = relays i; list = lists i }

abbrev IsSmall : SiteList → Type 0
IsSmall x = (x.relay < 64) × (x.list < 513)

pub is_small : (site : Site) → IsLawful site → (x : SiteList) → IsThere site x → IsSmall x
is_small site law x is =
    let relay = is.relay in
    let few = law.few in
    let list = is.list in
    let most = (whole_at site law x.relay is.relay).lists_most in
    (omega (arith, relay, few), omega (arith, list, most))

codes_differ : (x y : SiteList) → IsSmall x → IsSmall y → same_list x y ≡ false → (code x == code y) ≡ false
unfolding code
codes_differ x y small_x small_y apart =
    let x0 = small_x.0 in
    let x1 = small_x.1 in
    let y0 = small_y.0 in
    let y1 = small_y.1 in
    elim (cases_eq (513 * x.relay + x.list) (513 * y.relay + y.list)) [
      | inl same ↦
          let relays : x.relay ≡ y.relay = omega (arith, same, x0, x1, y0, y1) in
          let lists : x.list ≡ y.list = omega (arith, same, relays) in
          let is_same : same_list x y ≡ true = rw (eq-eqb x.relay y.relay relays, eq-eqb x.list y.list lists) refl in
          absurd (false≢true (sym apart ∙ is_same))
      | inr other ↦ ne_eqb (513 * x.relay + x.list) (513 * y.relay + y.list) other
    ]

all_apart : (x : SiteList) (xs : List SiteList) → IsSmall x → ((y : SiteList) → Contains xs y → IsSmall y)
    → AllByRecursion (λ y. same_list x y ≡ false) xs → AllByRecursion (λ n. (code x == n) ≡ false) (map code xs)
all_apart x [] small each apart = tt
all_apart x (y ∷ ys) small each apart = (
  codes_differ x y small (each y (0, omega arith, refl)) apart.0,
  all_apart x ys small (λ z there. each z (suc there.0, omega (arith, there.1), there.2)) apart.1,
)

codes_distinct : (xs : List SiteList) → ((y : SiteList) → Contains xs y → IsSmall y) → IsDistinct same_list xs
    → IsDistinct (λ m n. m == n) (map code xs)
unfolding IsDistinct
codes_distinct [] each d = tt
codes_distinct (x ∷ xs) each d = (
  all_apart x xs (each x (0, omega arith, refl)) (λ z there. each z (suc there.0, omega (arith, there.1), there.2)) d.0,
  codes_distinct xs (λ z there. each z (suc there.0, omega (arith, there.1), there.2)) d.1,
)

code_below : (x : SiteList) → IsSmall x → code x < 32832
unfolding code
code_below x small = let a = small.0 in let b = small.1 in omega (arith, a, b)

either : (a b : Bool) → (a || b) ≡ true → (a ≡ true) ⊎ (b ≡ true)
either true b e = inl refl
either false b e = inr e

codes_below : (xs : List SiteList) → ((y : SiteList) → Contains xs y → IsSmall y) → (q : ℕ) → list_any (λ n. q == n) (map code xs) ≡ true → q < 32832
codes_below [] each q e = absurd (false≢true e)
codes_below (x ∷ xs) each q e =
    elim (either (q == code x) (list_any (λ n. q == n) (map code xs)) e) [
      | inl here ↦
          let same = eqb-true q (code x) here in
          let low = code_below x (each x (0, omega arith, refl)) in
          omega (arith, same, low)
      | inr later ↦ codes_below xs (λ z there. each z (suc there.0, omega (arith, there.1), there.2)) q later
    ]

pub few_lists : (site : Site) → IsLawful site → (found : List SiteList) → IsDistinct same_list found
    → ((x : SiteList) → Contains found x → IsThere site x) → length found ≤ 32832
few_lists site law found distinct each =
    let small = λ (y : SiteList) (there : Contains found y). is_small site law y (each y there) in
    let most = length-le_from_distinct_below (map code found) 32832 (codes_distinct found small distinct) (codes_below found small) in
    subst (λ n. n ≤ 32832) (length-map found code) most

-- ---- what is put

pub not_in_lists : (found : List SiteList) (x : SiteList) → list_any (same_list x) found ≡ false → Contains found x → ⊥
not_in_lists found x none there = false≢true (sym none ∙ list_any-from_Contains same_list_laws x found there)

pub nothing_more : (old : List SiteList) → HasMore old old
nothing_more old = record { more = []; whole = sym (append-nil old) }

pub one_more : (old : List SiteList) (x : SiteList) → HasMore old (old ++ x ∷ [])
one_more old x = record { more = x ∷ []; whole = refl }

pub more_behind : (old mid new : List SiteList) → HasMore old mid → HasMore mid new → HasMore old new
more_behind old mid new first second = record {
  more = first.more ++ second.more;
  whole = second.whole ∙ ap (λ l. l ++ second.more) first.whole ∙ append_assoc old first.more second.more;
}

pub kept_more : (old new : List SiteList) → HasMore old new → (x : SiteList) → Contains old x → Contains new x
kept_more old new more x there = subst (λ l. Contains l x) (sym more.whole) (Contains-append_left old more.more x there)

same_place : {A : Type 0} (old more : List A) (j : ℕ) → j < length old → slice_get (old ++ more) j ≡ slice_get old j
same_place [] more j low = absurd (omega (arith, low))
same_place (x ∷ old) more ℕ.zero low = refl
same_place (x ∷ old) more (ℕ.suc j) low = same_place old more j (omega (arith, low))

pub stands_more : (old new : List SiteList) → HasMore old new → (place : ℕ) (x : SiteList) → slice_get old place ≡ Some x → slice_get new place ≡ Some x
stands_more old new more place x is =
    ap (λ l. slice_get l place) more.whole ∙ same_place old more.more place (slice_get_within old place x is) ∙ is

pub at_place : {A : Type 0} (xs : List A) (x : A) → Contains xs x → (k : ℕ) × (slice_get xs k ≡ Some x)
at_place xs x (k, low, is) = (k, slice_get-get_or xs k x low ∙ ap (λ z. Some z) is)

-- ---- marks

module _ (site : Site) (law : IsLawful site) (class : Class) (by : Following) where
  pub found_first : (marks : List Bool) → marks ≡ replicate 32832 false → AreFound site class by [] marks
  unfolding IsDistinct
  found_first marks is = record {
    there = λ x has. (let low = has.1 in absurd (omega (arith, low)));
    come = λ x has. (let low = has.1 in absurd (omega (arith, low)));
    distinct = tt;
    many = ap (λ l. length l) is ∙ length-replicate 32832 false;
    marked = λ x there mark. absurd (false≢true (sym (get_or-replicate-false x there) ∙ ap (λ l. get_or l (mark_of x) false) (sym is) ∙ mark));
    kept = λ x has. (let low = has.1 in absurd (omega (arith, low)));
  }
    where
      get_or-replicate-false : (x : SiteList) → IsThere site x → get_or (replicate 32832 false) (mark_of x) false ≡ false
      get_or-replicate-false x there =
          let small = is_small site law x there in
          let a = small.0 in
          let b = small.1 in
          get_or-replicate 32832 (mark_of x) false false (omega (arith, a, b))

  pub found_more : (lists : List SiteList) (marks : List Bool) (x : SiteList) → AreFound site class by lists marks → IsThere site x → Comes site class by x
      → (IsMarked marks x → ⊥) → AreFound site class by (lists ++ x ∷ []) (set marks (mark_of x) true)
  found_more lists marks x are there comes fresh =
      let many = are.many in
      let small = is_small site law x there in
      let low_relay = small.0 in
      let low_list = small.1 in
      let low : mark_of x < length marks = omega (arith, low_relay, low_list, many) in
      record {
        there = λ y has. elim (Contains-push_cases lists x y has) [
          | inl before ↦ are.there y before
          | inr here ↦ subst (IsThere site) here there
        ];
        come = λ y has. elim (Contains-push_cases lists x y has) [
          | inl before ↦ are.come y before
          | inr here ↦ subst (Comes site class by) here comes
        ];
        distinct = IsDistinct-push same_list_laws lists x are.distinct (none (list_any (same_list x) lists) refl);
        many = length-set marks (mark_of x) true ∙ many;
        marked = λ y is mark. elim (cases_eq (mark_of y) (mark_of x)) [
          | inl same ↦ subst (Contains (lists ++ x ∷ [])) (sym (codes_apart y x (is_small site law y is) small same)) (Contains-push lists x)
          | inr apart ↦ Contains-append_left lists (x ∷ []) y (are.marked y is (sym (other (mark_of y) apart) ∙ mark))
        ];
        kept = λ y has. elim (Contains-push_cases lists x y has) [
          | inl before ↦ elim (cases_eq (mark_of y) (mark_of x)) [
            | inl same ↦ at (mark_of y) low same
            | inr apart ↦ other (mark_of y) apart ∙ are.kept y before
          ]
          | inr here ↦ at (mark_of y) low (ap mark_of (sym here))
        ];
      }
    where
      none : (b : Bool) → list_any (same_list x) lists ≡ b → list_any (same_list x) lists ≡ false
      none true e = absurd (fresh (are.kept x (Contains-from_any same_list_is x lists e)))
      none false e = e

      other : (k : ℕ) → (k ≡ mark_of x → ⊥) → get_or (set marks (mark_of x) true) k false ≡ get_or marks k false
      other k apart = get_or-set_other marks (mark_of x) k true false apart

      at : (k : ℕ) → mark_of x < length marks → k ≡ mark_of x → get_or (set marks (mark_of x) true) k false ≡ true
      at k low same = get_or-set_at marks (mark_of x) k true false same low

-- ---- all that is led to

-- of so many that are found
abbrev pub AreLed : Site → Class → Following → List SiteList → ℕ → Type 0
AreLed site class by found done = (j : ℕ) (from : SiteList) → j < done → slice_get found j ≡ Some from → IsLed site class by found from

pub none_led : (site : Site) (class : Class) (by : Following) (found : List SiteList) → AreLed site class by found 0
none_led site class by found j from low is = absurd (omega (arith, low))

pub more_led : (site : Site) (class : Class) (by : Following) (old new : List SiteList) (done : ℕ) (from : SiteList) → slice_get old done ≡ Some from
    → HasMore old new → AreLed site class by old done → IsLed site class by new from → AreLed site class by new (done + 1)
more_led site class by old new done from here more before led j x low is number to leads =
    let within = slice_get_within old done from here in
    elim (cases_eq j done) [
      | inl same ↦
          let at : slice_get new done ≡ Some x = subst (λ k. slice_get new k ≡ Some x) same is in
          let it : x ≡ from = one_value (sym at ∙ stands_more old new more done from here) in
          led number to (subst (λ z. Leads site class by z number to) it leads)
      | inr apart ↦
          let earlier : j < done = omega (arith, low, apart) in
          let still : slice_get new j ≡ slice_get old j =
          ap (λ l. slice_get l j) more.whole ∙ same_place old more.more j (omega (arith, earlier, within)) in
          kept_more old new more to (before j x earlier (sym still ∙ is) number to leads)
    ]

module _ (site : Site) (law : IsLawful site) (class : Class) (by : Following) (lists : List SiteList) (marks : List Bool)
    (are : AreFound site class by lists marks) (begin : (x : SiteInput) → IsStart site by x → Contains lists (list_at site x))
    (led : (from : SiteList) → Contains lists from → IsLed site class by lists from) where
  all_come : (x : SiteList) → Comes site class by x → Contains lists x
  all_come x (starts input is) = begin input is
  all_come x (onward from to number before leads) = led from (all_come from before) number x leads

  pub all_marked : AreMarks site class by marks
  all_marked = record {
    many = are.many;
    sound = λ x there mark. are.come x (are.marked x there mark);
    whole = λ x comes. are.kept x (all_come x comes);
  }

pub all_led : (site : Site) → IsLawful site → (class : Class) (by : Following) (lists : List SiteList) (marks : List Bool) (done : ℕ)
    → length lists ≤ done → AreFound site class by lists marks → ((x : SiteInput) → IsStart site by x → Contains lists (list_at site x))
    → AreLed site class by lists done → AreMarks site class by marks
all_led site law class by lists marks done all are begin led =
    all_marked site law class by lists marks are begin
    (λ from is.
    (let at = at_place lists from is in
    let within = slice_get_within lists at.0 from at.1 in
    led at.0 from (omega (arith, within, all)) at.1))

-- an occurrence is one of the first 64
pub number_below : (site : Site) → IsLawful site → (relay list number : ℕ) (is : Occurrence) → occurrence_at site relay list number ≡ Some is
    → number < 64
number_below site law relay list number is here =
    let few = occurrences_few (plan_at site relay) list (whole_at site law relay (relay_of site relay list number is here)) in
    let within = slice_get_within (occurrences_at (plan_at site relay) list) number is here in
    omega (arith, few, within)

pub leads_below : (site : Site) → IsLawful site → (class : Class) (by : Following) (from : SiteList) (number : ℕ) (to : SiteList)
    → Leads site class by from number to → number < 64
leads_below site law class by from number to leads = number_below site law from.relay from.list number leads.is leads.does.found
