-- Going through the inputs that are found, until nothing more is.
use Rattle.std.proofs.Common.{◌≡◌, ℕ, suc, ◌<◌, ◌≤◌, ◌+◌, ◌*◌, Bool, true, false, ◌||◌, ◌==◌, List, [], ◌∷◌, length, map, Option, Some, None, refl, sym, ap, subst, ◌∙◌, arith, inl, inr, eqb-true, eq-eqb}
use Rattle.std.specs.Prelude.{Contains, ◌⊎◌, ◌↔◌, Result, Ok, Err, IfOk, slice_get}
use Rattle.std.specs.List.{AllByRecursion, IsDistinct, list_any}
use Rattle.std.proofs.lemmas.Bool.{cases_eq, false≢true, ne_eqb}
use Rattle.std.proofs.lemmas.List.{length-map}
use Rattle.std.proofs.lemmas.List.Elements.{Contains-append_left}
use Rattle.std.proofs.lemmas.Map.Steps.{length-le_from_distinct_below}
use Rattle.std.proofs.lemmas.Option.{get_or_from_slice_get, slice_get_within}
use Rattle.sy_wire.specs.declared.class.Class.{Class}
use Rattle.sy_rules.specs.Whole.{IsWhole}
use Rattle.sy_site.specs.declared.site.SiteInput.{SiteInput}
use Rattle.sy_site.specs.Sites.{Relay, Site, plan_at, plan_in}
use Rattle.sy_site.specs.machine.Lawful.{IsInput, IsLawful}
use Rattle.sy_board.specs.relay.Spares.{Scope}
use Rattle.sy_site.specs.machine.Reach.{Reach, Reaches, entry, list_of, onward}
use Rattle.sy_flows.specs.declared.flows.executed.Executed.{Executed}
use Rattle.sy_flows.specs.declared.flows.executed.Executed.TheVariants as executed
use Rattle.sy_flows.specs.Hops.{Leads}
use Rattle.sy_flows.specs.internal.Found.{Adds}
use Rattle.sy_flows.specs.Members.{same_input}
use Rattle.sy_flows.specs.declared.reach.Origin.{Origin}
use Rattle.sy_flows.specs.Search.{AreRooted, IsOrigin, IsSpread, LeadsOn}
use Rattle.sy_flows.specs.internal.Search.{KeepsRoots}
use Rattle.sy_flows.proofs.Places.{at_place}
use Rattle.sy_flows.proofs.Rooted.{origin_at, rooted_none, same_place}
use Rattle.sy_flows.proofs.There.{lead_there, place_there, relay_there}

-- ---- whole plans

whole_found : (site : Site) → IsLawful site → (r : ℕ) (relay : Relay) → slice_get site.relays r ≡ Some relay → IsWhole relay.plan
whole_found site law r relay is =
    subst (λ (x : Relay). IsWhole x.plan) (get_or_from_slice_get site.relays r relay relay is) (law.plans r relay (slice_get_within site.relays r relay is))

whole_in : (site : Site) → IsLawful site → (r : ℕ) (found : Option Relay) → slice_get site.relays r ≡ found → (i : ℕ)
    → i < length (plan_in found).inputs → IsWhole (plan_in found)
whole_in site law r None is i low = absurd (omega (arith, low))
whole_in site law r (Some relay) is i low = whole_found site law r relay is

pub whole_there : (site : Site) → IsLawful site → (input : SiteInput) → IsInput site input → IsWhole (plan_at site input.relay)
whole_there site law input is = whole_in site law input.relay (slice_get site.relays input.relay) refl input.input (place_there site input is)

-- ---- few inputs

code : SiteInput → ℕ
code x = 64 * x.relay + x.input

abbrev IsSmall : SiteInput → Type 0
IsSmall x = (x.relay < 64) × (x.input < 64)

is_small : (site : Site) → IsLawful site → (x : SiteInput) → IsInput site x → IsSmall x
is_small site law x is =
    let relay = relay_there site x is in
    let few = law.few in
    let place = place_there site x is in
    let most = (whole_there site law x is).inputs_most in
    (omega (arith, relay, few), omega (arith, place, most))

codes_differ : (x y : SiteInput) → IsSmall x → IsSmall y → same_input x y ≡ false → (code x == code y) ≡ false
unfolding code
codes_differ x y small_x small_y apart =
    let x0 = small_x.0 in
    let x1 = small_x.1 in
    let y0 = small_y.0 in
    let y1 = small_y.1 in
    elim (cases_eq (64 * x.relay + x.input) (64 * y.relay + y.input)) [
      | inl same ↦
          let relays : x.relay ≡ y.relay = omega (arith, same, x0, x1, y0, y1) in
          let inputs : x.input ≡ y.input = omega (arith, same, relays) in
          let is_same : same_input x y ≡ true = rw (eq-eqb x.relay y.relay relays, eq-eqb x.input y.input inputs) refl in
          absurd (false≢true (sym apart ∙ is_same))
      | inr other ↦ ne_eqb (64 * x.relay + x.input) (64 * y.relay + y.input) other
    ]

all_apart : (x : SiteInput) (xs : List SiteInput) → IsSmall x → ((y : SiteInput) → Contains xs y → IsSmall y)
    → AllByRecursion (λ y. same_input x y ≡ false) xs → AllByRecursion (λ n. (code x == n) ≡ false) (map code xs)
all_apart x [] small each apart = tt
all_apart x (y ∷ ys) small each apart = (
  codes_differ x y small (each y (0, omega arith, refl)) apart.0,
  all_apart x ys small (λ z there. each z (suc there.0, omega (arith, there.1), there.2)) apart.1,
)

codes_distinct : (xs : List SiteInput) → ((y : SiteInput) → Contains xs y → IsSmall y) → IsDistinct same_input xs
    → IsDistinct (λ m n. m == n) (map code xs)
unfolding IsDistinct
codes_distinct [] each d = tt
codes_distinct (x ∷ xs) each d = (
  all_apart x xs (each x (0, omega arith, refl)) (λ z there. each z (suc there.0, omega (arith, there.1), there.2)) d.0,
  codes_distinct xs (λ z there. each z (suc there.0, omega (arith, there.1), there.2)) d.1,
)

code_below : (x : SiteInput) → IsSmall x → code x < 4096
unfolding code
code_below x small = let a = small.0 in let b = small.1 in omega (arith, a, b)

either : (a b : Bool) → (a || b) ≡ true → (a ≡ true) ⊎ (b ≡ true)
either true b e = inl refl
either false b e = inr e

codes_below : (xs : List SiteInput) → ((y : SiteInput) → Contains xs y → IsSmall y) → (q : ℕ) → list_any (λ n. q == n) (map code xs) ≡ true → q < 4096
codes_below [] each q e = absurd (false≢true e)
codes_below (x ∷ xs) each q e =
    elim (either (q == code x) (list_any (λ n. q == n) (map code xs)) e) [
      | inl here ↦
          let same = eqb-true q (code x) here in
          let low = code_below x (each x (0, omega arith, refl)) in
          omega (arith, same, low)
      | inr later ↦ codes_below xs (λ z there. each z (suc there.0, omega (arith, there.1), there.2)) q later
    ]

pub few : (site : Site) → IsLawful site → (found : List SiteInput) → IsDistinct same_input found
    → ((x : SiteInput) → Contains found x → IsInput site x) → length found ≤ 4096
few site law found distinct each =
    let small = λ (y : SiteInput) (there : Contains found y). is_small site law y (each y there) in
    let most = length-le_from_distinct_below (map code found) 4096 (codes_distinct found small distinct) (codes_below found small) in
    subst (λ n. n ≤ 4096) (length-map found code) most

-- ---- so many of those that are found were gone through

pub record HasGone (site : Site) (class : Class) (which : Executed) (start found : List SiteInput) (origins : List (Option Origin)) (done : ℕ)
    : Type 0 where
  pub there : (x : SiteInput) → Contains found x → IsInput site x
  pub starts : (x : SiteInput) → Contains start x → Contains found x
  pub closed : (j : ℕ) (from to : SiteInput) → j < done → slice_get found j ≡ Some from → LeadsOn site class which from to → Contains found to
  pub rooted : AreRooted site class which start found origins
  pub distinct : IsDistinct same_input found

none_in : (x : SiteInput) → Contains [] x → ⊥
none_in x (k, low, is) = absurd (omega (arith, low))

pub stands_in : (xs : List SiteInput) (k : ℕ) (x : SiteInput) → slice_get xs k ≡ Some x → Contains xs x
stands_in xs k x is = (k, slice_get_within xs k x is, get_or_from_slice_get xs k x x is)

module _ (site : Site) (class : Class) (which : Executed) (start found : List SiteInput) (origins : List (Option Origin))
    (added : Adds (Contains start) [] found) (roots : KeepsRoots site class which start [] [] found origins) where
  is_start : (x : SiteInput) → Contains found x → Contains start x
  is_start x there = elim (added.only x there) [
    | inl before ↦ absurd (none_in x before)
    | inr is ↦ is
  ]

  pub gone_first : ((x : SiteInput) → Contains start x → IsInput site x) → HasGone site class which start found origins 0
  unfolding IsDistinct
  gone_first there = record {
    there = λ x is. there x (is_start x is);
    starts = added.all;
    closed = λ j from to low is leads. absurd (omega (arith, low));
    rooted = roots (rooted_none site class which start);
    distinct = added.distinct tt;
  }

one_value : {A : Type 0} {x y : A} → Some x ≡ Some y → x ≡ y
one_value e = cc

module _ (site : Site) (class : Class) (which : Executed) (start old new : List SiteInput) (old_origins new_origins : List (Option Origin)) (done : ℕ)
    (from : SiteInput) (here : slice_get old done ≡ Some from) (gone : HasGone site class which start old old_origins done)
    (added : Adds (LeadsOn site class which from) old new)
    (roots : KeepsRoots site class which start old old_origins new new_origins) where
  kept : (x : SiteInput) → Contains old x → Contains new x
  kept x there = subst (λ l. Contains l x) (sym added.whole) (Contains-append_left old added.more x there)

  same_in : (j : ℕ) → j < length old → slice_get new j ≡ slice_get old j
  same_in j low = ap (λ l. slice_get l j) added.whole ∙ same_place old added.more j low

  in_old : (j : ℕ) (x : SiteInput) → j < length old → slice_get new j ≡ Some x → slice_get old j ≡ Some x
  in_old j x low is = sym (same_in j low) ∙ is

  now_closed : (j : ℕ) (x to : SiteInput) → j < done + 1 → slice_get new j ≡ Some x → LeadsOn site class which x to → Contains new to
  now_closed j x to low is leads =
      let within = slice_get_within old done from here in
      elim (cases_eq j done) [
        | inl same ↦
            let at : slice_get old done ≡ Some x = ap (slice_get old) (sym same) ∙ in_old j x (omega (arith, same, within)) is in
            let it : x ≡ from = one_value (sym at ∙ here) in
            added.all to (subst (λ z. LeadsOn site class which z to) it leads)
        | inr apart ↦
            kept to (gone.closed j x to (omega (arith, low, apart)) (in_old j x (omega (arith, low, apart, within)) is) leads)
      ]

  pub gone_more : HasGone site class which start new new_origins (done + 1)
  gone_more = record {
    there = λ x is. elim (added.only x is) [
      | inl before ↦ gone.there x before
      | inr leads ↦ lead_there site class which from.relay (list_of site from) leads.number x leads.leads
    ];
    starts = λ x is. kept x (gone.starts x is);
    closed = now_closed;
    rooted = roots gone.rooted;
    distinct = added.distinct gone.distinct;
  }

module _ (site : Site) (class : Class) (which : Executed) (start found : List SiteInput) (origins : List (Option Origin)) (done : ℕ)
    (gone : HasGone site class which start found origins done) where
  pub gone_all : length found ≤ done → IsSpread site class which start found origins
  gone_all all = record {
    there = gone.there;
    starts = gone.starts;
    closed = λ from to is leads.
        (let at = at_place found from is in
        let within = slice_get_within found at.0 from at.1 in
        gone.closed at.0 from to (omega (arith, within, all)) at.1 leads);
    rooted = gone.rooted;
  }

  pub found_few : IsLawful site → length found ≤ 4096
  found_few law = few site law found gone.distinct gone.there

-- ---- what a class reaches

pub if_ok : {A E : Type 0} (P Q : A → Type 0) → ((x : A) → P x → Q x) → (r : Result A E) → IfOk r P → IfOk r Q
if_ok P Q f (Ok x) p = f x p
if_ok P Q f (Err e) p = p

-- how the occurrences of a scope are executed
abbrev pub executed_in : Scope → Executed
executed_in Scope.Every = executed.Every
executed_in Scope.Firm = executed.Firm

leads_in : (site : Site) (class : Class) (scope : Scope) (relay list number : ℕ) (to : SiteInput) → Reaches site class scope relay list number to
    → Leads site class (executed_in scope) relay list number to
leads_in site class Scope.Every relay list number to goes = goes
leads_in site class Scope.Firm relay list number to goes = goes

reaches_in : (site : Site) (class : Class) (scope : Scope) (relay list number : ℕ) (to : SiteInput)
    → Leads site class (executed_in scope) relay list number to → Reaches site class scope relay list number to
reaches_in site class Scope.Every relay list number to leads = leads
reaches_in site class Scope.Firm relay list number to leads = leads

module _ (site : Site) (class : Class) (scope : Scope) (found : List SiteInput) (origins : List (Option Origin))
    (spread : IsSpread site class (executed_in scope) site.entries found origins) where
  reach_found : (x : SiteInput) → Reach site class scope x → Contains found x
  reach_found x (entry is) = spread.starts x is
  reach_found x (onward {from} number before goes) =
      spread.closed from x (reach_found from before)
      (record { number = number; leads = leads_in site class scope from.relay (list_of site from) number x goes })

  reached_by : (place : ℕ) (x : SiteInput) (origin : Option Origin) → IsOrigin site class (executed_in scope) site.entries found place x origin
      → ((earlier : ℕ) (y : SiteInput) → earlier < place → slice_get found earlier ≡ Some y → Reach site class scope y) → Reach site class scope x
  reached_by place x None starts before = entry starts
  reached_by place x (Some o) from before =
      onward o.row.number (before o.place o.row.input from.0 from.1)
      (reaches_in site class scope o.row.input.relay (list_of site o.row.input) o.row.number x from.2.1)

  reached_below : (most place : ℕ) → place < most → (x : SiteInput) → slice_get found place ≡ Some x → Reach site class scope x
  reached_below ℕ.zero place low x is = absurd (omega (arith, low))
  reached_below (ℕ.suc most) place low x is =
      let origin = origin_at site class (executed_in scope) site.entries found origins spread.rooted place x is in
      reached_by place x origin.0 origin.1 (λ earlier y less stands. reached_below most earlier (omega (arith, less, low)) y stands)

  pub reach_spread : (x : SiteInput) → Contains found x ↔ Reach site class scope x
  reach_spread x = (
    λ is. (let at = at_place found x is in reached_below (suc at.0) at.0 (omega arith) x at.1),
    reach_found x,
  )
