-- What a class executes of a site, which inputs it reaches by that, and where its entries lead. Classes that execute the same
-- have the same.
use Rattle.std.specs.Prelude.{◌≡◌, ℕ, ◌↔◌, Contains, List, Some, slice_get}
use Rattle.sy_wire.specs.declared.class.Class.{Class}
use Rattle.sy_board.specs.relay.Spares.{Scope}
use Rattle.sy_site.specs.declared.site.SiteInput.{SiteInput}
use Rattle.sy_site.specs.Sites.{Site}
use Rattle.sy_site.specs.machine.Reach.{Reach}
use Rattle.sy_flows.specs.declared.flows.walk.Walk.{Walk}
use Rattle.sy_flows.specs.Hops.{AreFlows}
use Rattle.sy_flows.specs.Leads.{AreLeads}

-- It is that of the class.
pub record IsWalk (site : Site) (class : Class) (walk : Walk) : Type 0 where
  pub flows : AreFlows site class walk.flows
  pub firm : (x : SiteInput) → Contains walk.firm.items x ↔ Reach site class Scope.Firm x
  pub every : (x : SiteInput) → Contains walk.every.items x ↔ Reach site class Scope.Every x
  pub leads : AreLeads site class walk.leads.items

-- each is that of some class
abbrev pub AreWalks : Site → List Walk → Type 0
AreWalks site walks = (place : ℕ) (walk : Walk) → slice_get walks place ≡ Some walk → (other : Class) × IsWalk site other walk

-- at this place stands that of the class
pub record IsWalkAt (site : Site) (class : Class) (walks : List Walk) (place : ℕ) : Type 0 where
  pub walk : Walk
  pub stands : slice_get walks place ≡ Some walk
  pub is : IsWalk site class walk
