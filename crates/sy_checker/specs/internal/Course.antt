-- The course of a class through a site: what it executes, which inputs it reaches without spare occurrences and with them, how
-- the relays rank by that, how many posts follow one another, and where its entries lead. Classes that execute the same have the same one.
use Rattle.std.specs.Prelude.{◌≡◌, ℕ, ◌≤◌, ◌↔◌, Contains, List, Some, length, slice_get}
use Rattle.sy_wire.specs.declared.class.Class.{Class}
use Rattle.sy_board.specs.relay.Spares.{Scope}
use Rattle.sy_site.specs.declared.site.SiteInput.{SiteInput}
use Rattle.sy_site.specs.Sites.{Site}
use Rattle.sy_site.specs.machine.Reach.{Reach}
use Rattle.sy_site.specs.machine.Soundness.{AreRanks}
use Rattle.sy_checker.specs.declared.course.Course.{Course}
use Rattle.sy_flows.specs.declared.flows.executed.Executed.TheVariants as executed
use Rattle.sy_flows.specs.declared.flows.SiteFlows.{SiteFlows}
use Rattle.sy_flows.specs.Leads.{AreLeads}
use Rattle.sy_fit.specs.Fit.{IsClean}
use Rattle.sy_flows.specs.Hops.{AreFlows}
use Rattle.sy_checker.specs.internal.Inner.{AreNumbers, number_at}
use Rattle.sy_checker.specs.internal.Loops.{rank_at}
use Rattle.sy_flows.specs.Search.{IsSpread}
use Rattle.sy_flows.specs.Flows.{AreSame}
use Rattle.sy_flows.specs.internal.Alike.{AreAlike}

-- none of the kinds 1 to 7 is found of the class
abbrev pub AreClean : Site → Class → Type 0
AreClean site class = (x : SiteInput) → Reach site class Scope.Firm x → IsClean site class x

-- It is that of the class.
pub record IsCourse (site : Site) (class : Class) (course : Course) : Type 0 where
  pub flows : AreFlows site class course.flows
  pub spread : IsSpread site class executed.Firm site.entries course.found.inputs.items course.found.origins.items
  pub reached : (x : SiteInput) → Contains course.found.inputs.items x ↔ Reach site class Scope.Firm x
  pub every : (x : SiteInput) → Contains course.every.items x ↔ Reach site class Scope.Every x
  pub ranks : AreRanks site class (rank_at course.ranks.items)
  pub many : length course.ranks.items ≡ length site.relays
  pub numbers : AreNumbers site class (number_at course.numbers.items)
  pub leads : AreLeads site class course.leads.items
  pub clean : (other : Class) → AreAlike site class other → other.severity ≤ course.severity → AreClean site other

-- each is that of some class
abbrev pub AreCourses : Site → List Course → Type 0
AreCourses site courses = (place : ℕ) (course : Course) → slice_get courses place ≡ Some course → (other : Class) × IsCourse site other course

-- at this place stands one with these flows
pub record IsSameAt (courses : List Course) (flows : SiteFlows) (place : ℕ) : Type 0 where
  pub course : Course
  pub stands : slice_get courses place ≡ Some course
  pub same : AreSame course.flows.lists flows

-- none has them
abbrev pub IsNew : List Course → SiteFlows → Type 0
IsNew courses flows = (place : ℕ) (course : Course) → slice_get courses place ≡ Some course → AreSame course.flows.lists flows → ⊥

-- at this place stands that of the class
pub record IsCourseAt (site : Site) (class : Class) (courses : List Course) (place : ℕ) : Type 0 where
  pub course : Course
  pub stands : slice_get courses place ≡ Some course
  pub is : IsCourse site class course

-- what is a class's course among these, is its course at the same place among those
abbrev pub AreKept : Site → List Course → List Course → Type 0
AreKept site old new = (class : Class) (place : ℕ) → IsCourseAt site class old place → IsCourseAt site class new place

-- One of them has this severity now.
pub record IsRaised (old new : List Course) (place severity : ℕ) : Type 0 where
  pub many : length new ≡ length old
  pub here : (course : Course) → slice_get old place ≡ Some course → slice_get new place ≡ Some (record course { severity = severity })
  pub others : (at : ℕ) → (at ≡ place → ⊥) → slice_get new at ≡ slice_get old at
