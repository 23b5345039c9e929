-- What is kept of a site whose certificate is fit (this profile's own).
use Rattle.std.specs.Prelude.{◌≡◌, ℕ, ◌↔◌, Contains, List, map}
use Rattle.sy_wire.specs.declared.class.Class.{Class}
use Rattle.sy_rules.specs.PlanValue.{Plan}
use Rattle.sy_board.specs.relay.Totals.{GuardState}
use Rattle.sy_site.specs.declared.site.SiteInput.{SiteInput}
use Rattle.sy_site.specs.declared.site.SiteAction.{SiteAction}
use Rattle.sy_site.specs.Sites.{Relay, Site, actions_at}
use Rattle.sy_site.specs.machine.Soundness.{IsGuarded}
use Rattle.sy_fit.specs.Fit.{AreProtected}
use Rattle.sy_board.specs.relay.Spares.{Scope}
use Rattle.sy_site.specs.machine.Reach.{Reach}

-- the plans of its relays, its protected classes, each input with each of them that reaches it without spare occurrences, and the spare actions
pub record Acceptance : Type 0 where
  pub plans : List Plan
  pub classes : List Class
  pub pairs : List (SiteInput × Class)
  pub spares : List SiteAction

abbrev pub plans_of : Site → List Plan
plans_of site = map (λ (relay : Relay). relay.plan) site.relays

-- It is that of this site.
pub record IsOf (site : Site) (accepted : Acceptance) : Type 0 where
  pub plans : accepted.plans ≡ plans_of site
  pub classes : AreProtected site accepted.classes
  pub pairs : (input : SiteInput) (class : Class) → Contains accepted.pairs (input, class) ↔ IsGuarded site input.relay input.input class
  pub spares : accepted.spares ≡ site.spares

-- those of one relay
abbrev pub ArePairsAt : List (SiteInput × Class) → ℕ → List (ℕ × Class) → Type 0
ArePairsAt pairs relay found = (input : ℕ) (class : Class)
    → Contains found (input, class) ↔ Contains pairs (record { relay = relay; input = input }, class)

-- a guard of exactly the relay's pairs, and of exactly its spare actions
pub record IsGuardAt (accepted : Acceptance) (relay : ℕ) (guard : GuardState) : Type 0 where
  pub pairs : ArePairsAt accepted.pairs relay guard.pairs
  pub spares : guard.spares ≡ actions_at accepted.spares relay

-- each input that one of these classes reaches without spare occurrences, with that class
abbrev pub AreReached : Site → List Class → List (SiteInput × Class) → Type 0
AreReached site classes pairs = (input : SiteInput) (class : Class) → Contains pairs (input, class) ↔ (Contains classes class × Reach site class Scope.Firm input)
