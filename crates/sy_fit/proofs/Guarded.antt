-- Guarded inputs, class after class, and those of one relay.
use Rattle.std.proofs.Common.{◌≡◌, ℕ, ◌<◌, ◌+◌, List, [], ◌∷◌, ◌++◌, length, map, take, get_or, refl, sym, ap, subst, ◌∙◌, arith, inl, inr}
use Rattle.std.specs.Prelude.{Contains, ◌↔◌, IfOk, OnOk, Result, Ok, Err, Some, slice_get}
use Rattle.std.proofs.lemmas.List.{take_more}
use Rattle.std.proofs.lemmas.List.Elements.{Contains-append_cases, Contains-append_left, Contains-append_right, Contains-push, Contains-push_cases}
use Rattle.sy_wire.specs.declared.class.Class.{Class}
use Rattle.sy_rules.specs.PlanValue.{Plan}
use Rattle.sy_board.specs.relay.Guards.{MayGuard}
use Rattle.sy_board.specs.relay.Spares.{Scope}
use Rattle.sy_board.specs.relay.Totals.{GuardState, Pairs}
use Rattle.sy_site.specs.declared.site.SiteAction.{SiteAction}
use Rattle.sy_site.specs.declared.site.SiteInput.{SiteInput}
use Rattle.sy_site.specs.Sites.{Relay, Site, actions_at, plan_at, plan_in, spares_at}
use Rattle.sy_site.specs.machine.Reach.{Reach}
use Rattle.sy_site.specs.machine.Soundness.{IsGuarded}
use Rattle.sy_fit.specs.Acceptance.{Acceptance, ArePairsAt, AreReached, IsGuardAt, IsOf}
use Rattle.sy_fit.specs.internal.Acceptance.{AreGuardable}
use Rattle.sy_fit.specs.Fit.{AreProtected}
use Rattle.sy_fit.proofs.Comparing.{from_map}
use Rattle.sy_fit.proofs.FitIsSound.{in_map}

none_in : {A : Type 0} (x : A) → Contains [] x → ⊥
none_in x (k, low, is) = absurd (omega (arith, low))

-- the next of a list, behind those that were taken
pub take_next : {A : Type 0} (xs : List A) (k : ℕ) (x : A) → k < length xs → x ≡ get_or xs k x → take k xs ++ x ∷ [] ≡ take (k + 1) xs
take_next xs k x low is = ap (λ y. take k xs ++ y ∷ []) is ∙ sym (take_more xs k x low)

-- ---- class after class

pub reached_first : (site : Site) → AreReached site [] []
reached_first site input class = (λ there. absurd (none_in (input, class) there), λ is. absurd (none_in class is.0))

module _ (site : Site) (class : Class) (before : List Class) (pairs : List (SiteInput × Class)) (inputs : List SiteInput)
    (reach : (x : SiteInput) → Contains inputs x ↔ Reach site class Scope.Firm x) (are : AreReached site before pairs) where
  with : SiteInput → SiteInput × Class
  with input = (input, class)

  pub reached_more : AreReached site (before ++ class ∷ []) (pairs ++ map (λ input. (input, class)) inputs)
  unfolding with
  reached_more x c = (
    λ there. elim (Contains-append_cases pairs (map with inputs) (x, c) there) [
      | inl old ↦
          let is = (are x c).0 old in
          (Contains-append_left before (class ∷ []) c is.0, is.1)
      | inr new ↦
          let found = from_map with inputs (x, c) new in
          let input : found.0 ≡ x = ap (λ (p : SiteInput × Class). p.0) found.2 in
          let same : class ≡ c = ap (λ (p : SiteInput × Class). p.1) found.2 in (
            subst (Contains (before ++ class ∷ [])) same (Contains-push before class),
            subst (λ k. Reach site k Scope.Firm x) same ((reach x).0 (subst (Contains inputs) input found.1)),
          )
    ],
    λ is. elim (Contains-push_cases before class c is.0) [
      | inl old ↦ Contains-append_left pairs (map with inputs) (x, c) ((are x c).1 (old, is.1))
      | inr same ↦
          subst (λ k. Contains (pairs ++ map with inputs) (x, k)) same
          (Contains-append_right pairs (map with inputs) (x, class)
          (in_map with inputs x ((reach x).1 (subst (λ k. Reach site k Scope.Firm x) (sym same) is.1))))
    ],
  )

pub reached_guarded : (site : Site) (classes : List Class) (pairs : List (SiteInput × Class)) → AreProtected site classes → AreReached site classes pairs
    → (x : SiteInput) (c : Class) → Contains pairs (x, c) ↔ IsGuarded site x.relay x.input c
reached_guarded site classes pairs protected are x c = (
  λ there. (let is = (are x c).0 there in record { protected = (protected.member c).0 is.0; reached = is.1 }),
  λ is. (are x c).1 ((protected.member c).1 is.protected, is.reached),
)

-- ---- those of one relay

pub pairs_first : (relay : ℕ) → ArePairsAt [] relay []
pairs_first relay input class =
    (λ there. absurd (none_in (input, class) there), λ there. absurd (none_in (record { relay = relay; input = input }, class) there))

module _ (before : List (SiteInput × Class)) (relay : ℕ) (found : Pairs) (x : SiteInput) (c : Class) (are : ArePairsAt before relay found) where
  pub pair_push : x.relay ≡ relay → ArePairsAt (before ++ (x, c) ∷ []) relay (found ++ (x.input, c) ∷ [])
  pair_push here input class = (
    λ there. elim (Contains-push_cases found (x.input, c) (input, class) there) [
      | inl old ↦ Contains-append_left before ((x, c) ∷ []) (record { relay = relay; input = input }, class) ((are input class).0 old)
      | inr same ↦
          let it : (x, c) ≡ (record { relay = relay; input = input }, class) =
          λ i. (record { relay = here i; input = (same i).0 }, (same i).1) in
          subst (Contains (before ++ (x, c) ∷ [])) it (Contains-push before (x, c))
    ],
    λ there. elim (Contains-push_cases before (x, c) (record { relay = relay; input = input }, class) there) [
      | inl old ↦ Contains-append_left found ((x.input, c) ∷ []) (input, class) ((are input class).1 old)
      | inr same ↦
          let it : (x.input, c) ≡ (input, class) = λ i. ((same i).0.input, (same i).1) in
          subst (Contains (found ++ (x.input, c) ∷ [])) it (Contains-push found (x.input, c))
    ],
  )

  pub pair_skip : (x.relay ≡ relay → ⊥) → ArePairsAt (before ++ (x, c) ∷ []) relay found
  pair_skip apart input class = (
    λ there. Contains-append_left before ((x, c) ∷ []) (record { relay = relay; input = input }, class) ((are input class).0 there),
    λ there. elim (Contains-push_cases before (x, c) (record { relay = relay; input = input }, class) there) [
      | inl old ↦ (are input class).1 old
      | inr same ↦ absurd (apart (λ i. (same i).0.relay))
    ],
  )

-- ---- plans

pub one_more_plan : (relays : List Relay) (k : ℕ) → k < length relays
    → map (λ (r : Relay). r.plan) (take k relays) ++ plan_in (slice_get relays k) ∷ [] ≡ map (λ (r : Relay). r.plan) (take (k + 1) relays)
one_more_plan [] k low = absurd (omega (arith, low))
one_more_plan (r ∷ rs) ℕ.zero low = refl
one_more_plan (r ∷ rs) (ℕ.suc k) low =
    let on : ℕ.suc k + 1 ≡ ℕ.suc (k + 1) = omega arith in
    ap (λ ps. r.plan ∷ ps) (one_more_plan rs k (omega (arith, low)))
    ∙ ap (λ n. map (λ (x : Relay). x.plan) (take n (r ∷ rs))) (sym on)

plan_there : (relays : List Relay) (k : ℕ) (plan : Plan) → Some plan ≡ slice_get (map (λ (r : Relay). r.plan) relays) k → plan_in (slice_get relays k) ≡ plan
plan_there [] k plan e = cc
plan_there (r ∷ rs) ℕ.zero plan e = cc
plan_there (r ∷ rs) (ℕ.suc k) plan e = plan_there rs k plan e

-- where those of each relay meet the condition of its guards
pub guardable : (site : Site) (accepted : Acceptance) → IsOf site accepted
    → ((relay : ℕ) (guard : GuardState) → guard.spares ≡ spares_at site relay
    → ((input : ℕ) (class : Class) → Contains guard.pairs (input, class) → IsGuarded site relay input class) → MayGuard (plan_at site relay) guard)
    → AreGuardable accepted
guardable site accepted of may relay plan is guard are =
    let same : plan_at site relay ≡ plan = plan_there site.relays relay plan (subst (λ ps. Some plan ≡ slice_get ps relay) of.plans is) in
    subst (λ p. MayGuard p guard) same
    (may relay guard (are.spares ∙ ap (λ l. actions_at l relay) of.spares)
    (λ input class there. (of.pairs (record { relay = relay; input = input }) class).0 ((are.pairs input class).0 there)))

-- ---- what may fail

pub guard_is : {E : Type 0} (accepted : Acceptance) (relay : ℕ) (pairs : Pairs) (spares : List ℕ) (result : Result GuardState E)
    → ArePairsAt accepted.pairs relay pairs → spares ≡ actions_at accepted.spares relay
    → IfOk result (λ g. g ≡ record { pairs = pairs; spares = spares }) → IfOk result (λ g. IsGuardAt accepted relay g)
guard_is accepted relay pairs spares (Ok g) are is same = subst (IsGuardAt accepted relay) (sym same) (record { pairs = are; spares = is })
guard_is accepted relay pairs spares (Err e) are is same = same

pub all_reached : {A E : Type 0} (site : Site) (class : Class) (old new : List (SiteInput × Class)) (inputs : List SiteInput) (result : Result A E)
    → ((x : SiteInput) → Contains inputs x ↔ Reach site class Scope.Firm x) → new ≡ old ++ map (λ input. (input, class)) inputs
    → OnOk result ((before : List Class) → AreReached site before old → AreReached site (before ++ class ∷ []) new)
all_reached site class old new inputs (Ok x) reach is = λ before are.
    subst (AreReached site (before ++ class ∷ [])) (sym is) (reached_more site class before old inputs reach are)
all_reached site class old new inputs (Err e) reach is = record {}

pub guard_may : {E : Type 0} (accepted : Acceptance) (relay : ℕ) (result : Result GuardState E) → AreGuardable accepted
    → IfOk result (λ g. IsGuardAt accepted relay g)
    → IfOk result (λ g. (plan : Plan) → Some plan ≡ slice_get accepted.plans relay → MayGuard plan g)
guard_may accepted relay (Ok g) may are = λ plan is. may relay plan is g are
guard_may accepted relay (Err e) may are = are
