-- A lawful site in which no finding is true is sound. Without a loop no way is longer than there are relays; so what a class reaches, and how many
-- hops follow one another, is found by going so far.
use Rattle.std.proofs.Common.{◌≡◌, ℕ, suc, ◌<◌, ◌≤◌, ◌+◌, ◌==◌, ◌&&◌, ◌||◌, Bool, true, false, List, [], ◌∷◌, ◌++◌, length, Some, refl, sym, ap, subst, ◌∙◌, arith, inl, inr, eqb-true, eq-eqb}
use Rattle.std.specs.Prelude.{Contains, ◌⊎◌, ◌↔◌}
use Rattle.std.proofs.lemmas.Bool.{cases_eq, false≢true}
use Rattle.std.proofs.lemmas.List.{length_push}
use Rattle.sy_wire.specs.declared.class.Class.{Class}
use Rattle.sy_board.specs.relay.Spares.{Scope}
use Rattle.sy_site.specs.declared.site.SiteAction.{SiteAction}
use Rattle.sy_site.specs.declared.site.SiteInput.{SiteInput}
use Rattle.sy_site.specs.Sites.{Site, archives}
use Rattle.sy_site.specs.machine.Findings.{HoldsAt, IsFinding, IsFound, Kind, WayRow}
use Rattle.sy_site.specs.machine.Lawful.{IsLawful}
use Rattle.sy_site.specs.machine.Reach.{LeadsTo, Reach, Reaches, entry, list_of, onward}
use Rattle.sy_site.specs.machine.Soundness.{IsSound, IsSoundFor}
use Rattle.sy_site.proofs.machine.Spares.{reach_every, reaches_every}
use Rattle.sy_site.proofs.machine.Ways.{way_to}
use Rattle.sy_checker.specs.internal.Loops.{IsTrail, relays_of}
use Rattle.sy_flows.specs.Leads.{list_at}
use Rattle.sy_checker.proofs.Leading.{next_of}
use Rattle.sy_checker.proofs.LeadsDecided.{leads_or_not}
use Rattle.sy_flows.proofs.Led.{list_there}
use Rattle.sy_fit.proofs.Listing.{In, and_first, and_second, both_true, flat, flat_has, flat_is, in_cases, in_left, in_list, in_right, of_list, or_cases, or_left, or_right, some, some_has, some_is}
use Rattle.sy_flows.proofs.There.{entry_there}
use Rattle.sy_checker.proofs.Trails.{first_trail, loops, short, trail_on}

-- ---- numbers

abbrev one : Bool → ℕ
one true = 1
one false = 0

one_most : (a b : Bool) → (a ≡ true → b ≡ true) → one a ≤ one b
one_most true b f = subst (λ z. 1 ≤ one z) (sym (f refl)) (omega arith)
one_most false b f = omega arith

no_one : (b : Bool) → (b ≡ true → ⊥) → one b ≡ 0
no_one true f = absurd (f refl)
no_one false f = refl

one_above : (c : ℕ) → c ≡ 1 → 0 + 1 ≤ 0 + c
one_above c e = omega (arith, e)

both_above : (a b c d : ℕ) → a + 1 ≤ b → c ≤ d → (a + c) + 1 ≤ b + d
both_above a b c d h o = omega (arith, h, o)

last_above : (a b c : ℕ) → a + 1 ≤ b + c → c ≡ 0 → a < b
last_above a b c h e = omega (arith, h, e)

-- ---- a class of a site

module _ (site : Site) (law : IsLawful site) (class : Class) (none : (way : List WayRow) (input : SiteInput) (kind : Kind) → IsFound site class way input kind → ⊥) where
  -- ---- what is reached

  abbrev GoesTo : Scope → SiteInput → ℕ → SiteInput → Type 0
  GoesTo scope from number to = Reaches site class scope from.relay (list_of site from) number to

  every_reach : (scope : Scope) (x : SiteInput) → Reach site class scope x → Reach site class Scope.Every x
  every_reach Scope.Every x at = at
  every_reach Scope.Firm x at = reach_every site class x at

  every_goes : (scope : Scope) (from : SiteInput) (number : ℕ) (to : SiteInput) → GoesTo scope from number to → GoesTo Scope.Every from number to
  every_goes Scope.Every from number to goes = goes
  every_goes Scope.Firm from number to goes = reaches_every site class from.relay (list_of site from) number to goes

  abbrev next : Scope → SiteInput → List SiteInput
  next scope x = (next_of site class x.relay law scope (list_of site x)).found

  next_has : (scope : Scope) (x : SiteInput) (k : ℕ) (y : SiteInput) → GoesTo scope x k y → In y (next scope x)
  next_has scope x k y goes = (next_of site class x.relay law scope (list_of site x)).has k y goes

  next_is : (scope : Scope) (x y : SiteInput) → In y (next scope x) → (k : ℕ) × GoesTo scope x k y
  next_is scope x y i = (next_of site class x.relay law scope (list_of site x)).is y i

  -- by so many hops
  abbrev inputs : Scope → ℕ → List SiteInput
  inputs scope ℕ.zero = site.entries
  inputs scope (ℕ.suc n) = inputs scope n ++ flat (next scope) (inputs scope n)

  in_more : (scope : Scope) (m n : ℕ) (x : SiteInput) → n ≤ m → In x (inputs scope n) → In x (inputs scope m)
  in_more scope ℕ.zero n x low i = let same : n ≡ 0 = omega (arith, low) in subst (λ z. In x (inputs scope z)) same i
  in_more scope (ℕ.suc m) n x low i = elim (cases_eq n (suc m)) [
    | inl same ↦ subst (λ z. In x (inputs scope z)) same i
    | inr apart ↦ in_left (inputs scope m) (flat (next scope) (inputs scope m)) x (in_more scope m n x (omega (arith, low, apart)) i)
  ]

  reached : (scope : Scope) (n : ℕ) (x : SiteInput) → In x (inputs scope n) → Reach site class scope x
  reached scope ℕ.zero x i = entry (of_list site.entries x i)
  reached scope (ℕ.suc n) x i = elim (in_cases (inputs scope n) (flat (next scope) (inputs scope n)) x i) [
    | inl before ↦ reached scope n x before
    | inr new ↦
        (let f = flat_is (next scope) (inputs scope n) x new in
        let g = next_is scope f.0 x f.2 in
        onward g.0 (reached scope n f.0 f.1) g.1)
  ]

  abbrev row_of : SiteInput → ℕ → WayRow
  row_of x k = record { input = x; number = k }

  fresh : (way : List WayRow) (from : SiteInput) (number : ℕ) (to : SiteInput) → Reach site class Scope.Every from → GoesTo Scope.Every from number to
      → IsTrail site class way from → Contains (relays_of (way ++ row_of from number ∷ [])) to.relay → ⊥
  fresh way from number to at goes trail met =
      none (way ++ row_of from number ∷ []) to Kind.Loop (loops site class from number to at goes way trail met)

  longer : (way : List WayRow) (from : SiteInput) (number : ℕ) (to : SiteInput) → Reach site class Scope.Every from → GoesTo Scope.Every from number to
      → IsTrail site class way from → (x : SiteInput) → x.relay ≡ to.relay → IsTrail site class (way ++ row_of from number ∷ []) x
  longer way from number to at goes trail x same =
      trail_on site class from number to at goes law way trail (fresh way from number to at goes trail) x same

  record Trailed (scope : Scope) (x : SiteInput) : Type 0 where
    pub way : List WayRow
    pub trail : IsTrail site class way x
    pub found : In x (inputs scope (length way))

  trailed : (scope : Scope) (x : SiteInput) → Reach site class scope x → Trailed scope x
  trailed scope x (entry is) = record { way = []; trail = first_trail site class x is; found = in_list site.entries x is.0 is.1 is.2 }
  trailed scope x (onward {from} number at goes) =
      let w = trailed scope from at in
      let n = length w.way in
      let l = length_push w.way (row_of from number) in
      let same : suc n ≡ length (w.way ++ row_of from number ∷ []) = omega (arith, l) in
      record {
        way = w.way ++ row_of from number ∷ [];
        trail = longer w.way from number x (every_reach scope from at) (every_goes scope from number x goes) w.trail x refl;
        found = subst (λ k. In x (inputs scope k)) same
            (in_right (inputs scope n) (flat (next scope) (inputs scope n)) x
            (flat_has (next scope) (inputs scope n) from x w.found (next_has scope from number x goes)));
      }

  abbrev all : Scope → List SiteInput
  all scope = inputs scope (length site.relays)

  all_has : (scope : Scope) (x : SiteInput) → Reach site class scope x → In x (all scope)
  all_has scope x at =
      let w = trailed scope x at in
      let low = short site law class w.way x w.trail (every_reach scope x at) in
      in_more scope (length site.relays) (length w.way) x (omega (arith, low)) w.found

  pub reached_list : (scope : Scope) → (found : List SiteInput) × ((x : SiteInput) → Contains found x ↔ Reach site class scope x)
  reached_list scope = (
    all scope,
    λ x. (
      λ there. reached scope (length site.relays) x (in_list (all scope) x there.0 there.1 there.2),
      λ at. of_list (all scope) x (all_has scope x at),
    ),
  )

  -- ---- how many hops follow one another

  abbrev follow : ℕ → ℕ → Bool
  follow ℕ.zero relay = true
  follow (ℕ.suc n) relay =
      some (λ (x : SiteInput). (x.relay == relay) && some (λ (y : SiteInput). follow n y.relay) (next Scope.Every x)) (all Scope.Every)

  abbrev goes_on : ℕ → SiteInput → Bool
  goes_on n x = some (λ (y : SiteInput). follow n y.relay) (next Scope.Every x)

  -- a reached input of the relay from which so many follow
  goes_from : (n relay : ℕ) → follow (suc n) relay ≡ true
      → (x : SiteInput) × Reach site class Scope.Every x × (x.relay ≡ relay) × (goes_on n x ≡ true)
  goes_from n relay is =
      let f = some_is (λ (x : SiteInput). (x.relay == relay) && goes_on n x) (all Scope.Every) is in
      let x = f.0 in (
        x,
        reached Scope.Every (length site.relays) x f.1,
        eqb-true x.relay relay (and_first (x.relay == relay) (goes_on n x) f.2),
        and_second (x.relay == relay) (goes_on n x) f.2,
      )

  bound : (n : ℕ) (way : List WayRow) (x : SiteInput) → IsTrail site class way x → Reach site class Scope.Every x → goes_on n x ≡ true
      → length way + suc n < length site.relays
  bound ℕ.zero way x trail at is =
      let f = some_is (λ (y : SiteInput). follow 0 y.relay) (next Scope.Every x) is in
      let g = next_is Scope.Every x f.0 f.1 in
      let low = short site law class (way ++ row_of x g.0 ∷ []) f.0 (longer way x g.0 f.0 at g.1 trail f.0 refl) (onward g.0 at g.1) in
      let l = length_push way (row_of x g.0) in
      omega (arith, low, l)
  bound (ℕ.suc n) way x trail at is =
      let f = some_is (λ (y : SiteInput). follow (suc n) y.relay) (next Scope.Every x) is in
      let g = next_is Scope.Every x f.0 f.1 in
      let h = goes_from n f.0.relay f.2 in
      let low = bound n (way ++ row_of x g.0 ∷ []) h.0 (longer way x g.0 f.0 at g.1 trail h.0 h.2) h.1 h.3 in
      let l = length_push way (row_of x g.0) in
      omega (arith, low, l)

  stops : (relay : ℕ) → follow (suc (length site.relays)) relay ≡ true → ⊥
  stops relay is =
      let h = goes_from (length site.relays) relay is in
      let w = trailed Scope.Every h.0 h.1 in
      let low = bound (length site.relays) w.way h.0 w.trail h.1 h.3 in
      omega (arith, low)

  module _ (from to : SiteInput) (number : ℕ) (at : Reach site class Scope.Every from) (goes : GoesTo Scope.Every from number to) where
    one_more : (n : ℕ) → follow n to.relay ≡ true → follow (suc n) from.relay ≡ true
    one_more n is =
        some_has (λ (x : SiteInput). (x.relay == from.relay) && goes_on n x) (all Scope.Every) from (all_has Scope.Every from at)
        (both_true (from.relay == from.relay) (goes_on n from) (eq-eqb from.relay from.relay refl)
        (some_has (λ (y : SiteInput). follow n y.relay) (next Scope.Every from) to (next_has Scope.Every from number to goes) is))

  -- a relay's rank: how many numbers there are, from 1 on, of which so many hops follow
  abbrev tally : ℕ → ℕ → ℕ
  tally ℕ.zero relay = 0
  tally (ℕ.suc n) relay = tally n relay + one (follow (suc n) relay)

  tally_above : (from to : SiteInput) (number : ℕ) → Reach site class Scope.Every from → GoesTo Scope.Every from number to
      → (n : ℕ) → tally n to.relay + 1 ≤ tally (suc n) from.relay
  tally_above from to number at goes ℕ.zero =
      one_above (one (follow 1 from.relay)) (ap one (one_more from to number at goes 0 refl))
  tally_above from to number at goes (ℕ.suc n) =
      both_above (tally n to.relay) (tally (suc n) from.relay) (one (follow (suc n) to.relay)) (one (follow (suc (suc n)) from.relay))
      (tally_above from to number at goes n)
      (one_most (follow (suc n) to.relay) (follow (suc (suc n)) from.relay) (one_more from to number at goes (suc n)))

  falls : (from to : SiteInput) (number : ℕ) → Reach site class Scope.Every from → GoesTo Scope.Every from number to
      → tally (length site.relays) to.relay < tally (length site.relays) from.relay
  falls from to number at goes =
      let n = length site.relays in
      last_above (tally n to.relay) (tally n from.relay) (one (follow (suc n) from.relay)) (tally_above from to number at goes n)
      (no_one (follow (suc n) from.relay) (stops from.relay))

  -- ---- which archives are led to

  lead : (archive : SiteAction) (x : SiteInput) → Contains site.entries x → Contains (archives site class) archive → LeadsTo site class archive x
  lead archive x is named = elim (leads_or_not site law class archive (list_at site x) (list_there site law x (entry_there site law x is))) [
    | inl leads ↦ leads
    | inr leads_not ↦ absurd (none [] x (Kind.Unmet archive) (refl, record { named = named; is_entry = is; leads_not = leads_not }))
  ]

  -- ---- all of it

  clean : (input : SiteInput) → Reach site class Scope.Firm input → (kind : Kind) → HoldsAt site class input kind → ⊥
  clean input at Kind.NotFull holds = let w = way_to site class input at in none w.0 input Kind.NotFull (w.1, holds)
  clean input at Kind.MarkOff holds = let w = way_to site class input at in none w.0 input Kind.MarkOff (w.1, holds)
  clean input at Kind.MarkAboveSize holds = let w = way_to site class input at in none w.0 input Kind.MarkAboveSize (w.1, holds)
  clean input at Kind.Discards holds = let w = way_to site class input at in none w.0 input Kind.Discards (w.1, holds)
  clean input at Kind.InnerQueue holds = let w = way_to site class input at in none w.0 input Kind.InnerQueue (w.1, holds)
  clean input at Kind.GivesUp holds = let w = way_to site class input at in none w.0 input Kind.GivesUp (w.1, holds)
  clean input at Kind.NoTarget holds = let w = way_to site class input at in none w.0 input Kind.NoTarget (w.1, holds)
  clean input at Kind.InnerLoop holds = let w = way_to site class input at in none w.0 input Kind.InnerLoop (w.1, holds)
  clean input at Kind.Loop holds = holds
  clean input at (Kind.Unmet archive) holds = holds

  sound_for : IsSoundFor site class
  sound_for = record {
    clean = clean;
    rank = tally (length site.relays);
    ranks = record { falls = λ from to number at goes. falls from to number at goes };
    leads = λ x is archive named. lead archive x is named;
  }

pub without_findings : (site : Site) → IsLawful site
    → ((class : Class) (way : List WayRow) (input : SiteInput) (kind : Kind) → IsFinding site class way input kind → ⊥) → IsSound site
without_findings site law none class protected =
    sound_for site law class (λ way input kind found. none class way input kind (record { protected = protected; found = found }))
