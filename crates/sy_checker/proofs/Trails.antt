-- Ways: where one hop more leads, and how long they are.
use Rattle.std.proofs.Common.{◌≡◌, ℕ, ◌<◌, ◌≤◌, ◌+◌, ◌==◌, Bool, true, false, List, [], ◌∷◌, ◌++◌, length, refl, sym, ap, subst, ◌∙◌, arith, inl, inr, eqb, eqb-true}
use Rattle.std.specs.Prelude.{Contains}
use Rattle.std.specs.List.{IsDistinct, list_any}
use Rattle.std.proofs.lemmas.Cmp.{nat_eq_equiv}
use Rattle.std.proofs.lemmas.List.{length-map, length_push, map_push}
use Rattle.std.proofs.lemmas.List.Elements.{Contains-append_left, Contains-push, Contains-push_cases}
use Rattle.std.proofs.lemmas.Map.Keys.{IsDistinct-push}
use Rattle.std.proofs.lemmas.Map.Steps.{length-le_from_distinct_below}
use Rattle.std.proofs.lemmas.Map.Views.{Contains-from_any}
use Rattle.sy_wire.specs.declared.class.Class.{Class}
use Rattle.sy_site.specs.declared.site.SiteInput.{SiteInput}
use Rattle.sy_site.specs.Sites.{Site}
use Rattle.sy_site.specs.machine.Findings.{IsChain, IsLoop, WayRow, first_is_entry}
use Rattle.sy_site.specs.machine.Lawful.{IsLawful}
use Rattle.sy_board.specs.relay.Spares.{Scope}
use Rattle.sy_site.specs.machine.Reach.{Reach}
use Rattle.sy_site.specs.declared.finding.WayRow as found
use Rattle.sy_fit.specs.internal.Ranked.{GoesOn}
use Rattle.sy_checker.specs.internal.Loops.{IsLed, IsMet, IsTrail, relays_of, way_of}
use Rattle.sy_flows.proofs.There.{reach_there, relay_there}

-- ---- no number twice

absent : (xs : List ℕ) (x : ℕ) (b : Bool) → list_any (eqb x) xs ≡ b → (Contains xs x → ⊥) → list_any (eqb x) xs ≡ false
absent xs x true is none = absurd (none (Contains-from_any (λ a b e. eqb-true a b e) x xs is))
absent xs x false is none = is

distinct_more : (xs : List ℕ) (x : ℕ) → IsDistinct ◌==◌ xs → (Contains xs x → ⊥) → IsDistinct ◌==◌ (xs ++ x ∷ [])
distinct_more xs x distinct none = IsDistinct-push nat_eq_equiv xs x distinct (absent xs x (list_any (eqb x) xs) refl none)

-- ---- no way is longer than there are relays

pub short : (site : Site) → IsLawful site → (class : Class) (way : List WayRow) (input : SiteInput) → IsTrail site class way input
    → Reach site class Scope.Every input → length way < length site.relays
short site law class way input trail at =
    let relays = relays_of way in
    let all = relays ++ input.relay ∷ [] in
    let below : (q : ℕ) → list_any (eqb q) all ≡ true → q < length site.relays = λ q is.
    elim (Contains-push_cases relays input.relay q (Contains-from_any (λ a b e. eqb-true a b e) q all is)) [
      | inl before ↦ trail.there q before
      | inr here ↦ subst (λ r. r < length site.relays) here (relay_there site input (reach_there site law class Scope.Every input at))
    ] in
    let most : length all ≤ length site.relays =
    length-le_from_distinct_below all (length site.relays) (distinct_more relays input.relay trail.distinct trail.new) below in
    let one : length all ≡ length relays + 1 = length_push relays input.relay in
    let same : length relays ≡ length way = length-map way (λ (row : WayRow). row.input.relay) in
    omega (arith, most, one, same)

-- ---- one hop more

module _ (site : Site) (class : Class) (from : SiteInput) (number : ℕ) (to : SiteInput) (at : Reach site class Scope.Every from)
    (goes : GoesOn site class from number to) where
  abbrev row : WayRow
  row = record { input = from; number = number }

  chain_more : (way : List WayRow) (end : SiteInput) → IsChain site class way end → end.relay ≡ from.relay
      → IsChain site class (way ++ row ∷ []) to
  chain_more [] end chain same = absurd chain
  chain_more (r ∷ []) end chain same = (end, chain, same, (at, goes))
  chain_more (r ∷ next ∷ way) end chain same =
      (chain.0, chain.1, chain.2, chain_more (next ∷ way) end chain.3 same)

  led_chain : (way : List WayRow) → IsLed site class way from
      → first_is_entry site (way ++ row ∷ []) × IsChain site class (way ++ row ∷ []) to
  led_chain [] led = (led, (at, goes))
  led_chain (r ∷ way) led = (led.0, chain_more (r ∷ way) led.1 led.2 led.3)

  led_on : (way : List WayRow) → IsLed site class way from → (next : SiteInput) → next.relay ≡ to.relay
      → IsLed site class (way ++ row ∷ []) next
  led_on [] led next same = (led, to, (at, goes), sym same)
  led_on (r ∷ way) led next same = (led.0, to, chain_more (r ∷ way) led.1 led.2 led.3, sym same)

  pub loops : (way : List WayRow) → IsTrail site class way from → Contains (relays_of (way ++ row ∷ [])) to.relay
      → IsLoop site class (way ++ row ∷ []) to
  loops way trail met = let chain = led_chain way trail.led in record {
    starts = chain.0;
    chain = chain.1;
    met_before = met;
  }

  pub relays_more : (way : List WayRow) → relays_of (way ++ row ∷ []) ≡ relays_of way ++ from.relay ∷ []
  relays_more way = map_push (λ (r : WayRow). r.input.relay) way row

  pub trail_on : IsLawful site → (way : List WayRow) → IsTrail site class way from → (Contains (relays_of (way ++ row ∷ [])) to.relay → ⊥)
      → (next : SiteInput) → next.relay ≡ to.relay → IsTrail site class (way ++ row ∷ []) next
  trail_on law way trail fresh next same = record {
    led = led_on way trail.led next same;
    distinct = subst (IsDistinct ◌==◌) (sym (relays_more way)) (distinct_more (relays_of way) from.relay trail.distinct trail.new);
    there = λ relay on. elim (Contains-push_cases (relays_of way) from.relay relay (subst (λ l. Contains l relay) (relays_more way) on)) [
      | inl before ↦ trail.there relay before
      | inr here ↦ subst (λ r. r < length site.relays) here (relay_there site from (reach_there site law class Scope.Every from at))
    ];
    new = λ on. fresh (subst (Contains (relays_of (way ++ row ∷ []))) same on);
  }

-- ---- a way as it is found

pub way_more : (way : List found.WayRow) (row : found.WayRow) → way_of (way ++ row ∷ []) ≡ way_of way ++ record { input = row.input; number = row.number } ∷ []
way_more way row = map_push (λ (r : found.WayRow). record { input = r.input; number = r.number }) way row

pub first_trail : (site : Site) (class : Class) (input : SiteInput) → Contains site.entries input → IsTrail site class [] input
unfolding IsDistinct
first_trail site class input is = record {
  led = is;
  distinct = tt;
  there = λ relay (k, low, same). absurd (omega (arith, low));
  new = λ (k, low, same). absurd (omega (arith, low));
}

pub room : (site : Site) → IsLawful site → (class : Class) (way : List found.WayRow) (input : SiteInput) → IsTrail site class (way_of way) input
    → Reach site class Scope.Every input → length way < length site.relays
room site law class way input trail at =
    let low = short site law class (way_of way) input trail at in
    let same : length (way_of way) ≡ length way = length-map way (λ (r : found.WayRow). record { input = r.input; number = r.number }) in
    omega (arith, low, same)

module _ (site : Site) (class : Class) (way new : List found.WayRow) (row : found.WayRow) (to : SiteInput) (longer : new ≡ way ++ row ∷ [])
    (at : Reach site class Scope.Every row.input) (goes : GoesOn site class row.input row.number to) where
  is_longer : way_of new ≡ way_of way ++ record { input = row.input; number = row.number } ∷ []
  is_longer = ap way_of longer ∙ way_more way row

  pub loops_as_found : IsTrail site class (way_of way) row.input → Contains (relays_of (way_of new)) to.relay → IsLoop site class (way_of new) to
  loops_as_found trail met =
      subst (λ l. IsLoop site class l to) (sym is_longer)
      (loops site class row.input row.number to at goes (way_of way) trail (subst (λ l. Contains (relays_of l) to.relay) is_longer met))

  pub trail_as_found : IsLawful site → IsTrail site class (way_of way) row.input → (Contains (relays_of (way_of new)) to.relay → ⊥)
      → (next : SiteInput) → next.relay ≡ to.relay → IsTrail site class (way_of new) next
  trail_as_found law trail fresh next same =
      subst (λ l. IsTrail site class l next) (sym is_longer)
      (trail_on site class row.input row.number to at goes law (way_of way) trail
      (λ met. fresh (subst (λ l. Contains (relays_of l) to.relay) (sym is_longer) met)) next same)

  pub met_on : (relay : ℕ) → IsMet (way_of way) row.input relay → Contains (relays_of (way_of new)) relay
  met_on relay met =
      let relays : relays_of (way_of new) ≡ relays_of (way_of way) ++ row.input.relay ∷ [] =
      ap relays_of is_longer ∙ relays_more site class row.input row.number to at goes (way_of way) in
      subst (λ l. Contains l relay) (sym relays) (elim met [
        | inl on ↦ Contains-append_left (relays_of (way_of way)) (row.input.relay ∷ []) relay on
        | inr same ↦ subst (Contains (relays_of (way_of way) ++ row.input.relay ∷ [])) (sym same) (Contains-push (relays_of (way_of way)) row.input.relay)
      ])
