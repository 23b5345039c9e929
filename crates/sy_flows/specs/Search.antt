-- Inputs that are found by following occurrences from some of them, and the ways to these.
use Rattle.std.specs.Prelude.{◌≡◌, ℕ, ◌<◌, Contains, List, Option, Some, None, length, slice_get}
use Rattle.sy_wire.specs.declared.class.Class.{Class}
use Rattle.sy_site.specs.declared.site.SiteInput.{SiteInput}
use Rattle.sy_site.specs.Sites.{Site}
use Rattle.sy_site.specs.machine.Lawful.{IsInput}
use Rattle.sy_flows.specs.declared.flows.executed.Executed.{Executed}
use Rattle.sy_flows.specs.declared.reach.Origin.{Origin}
use Rattle.sy_flows.specs.Hops.{LeadsBy}

-- an occurrence that is executed leads to it
pub record LeadsOn (site : Site) (class : Class) (which : Executed) (from to : SiteInput) : Type 0 where
  pub number : ℕ
  pub leads : LeadsBy site class which from number to

-- an occurrence that leads there
abbrev pub IsNumberTo : Site → Class → Executed → SiteInput → SiteInput → ℕ → Type 0
IsNumberTo site class which from to number = (number < 64) × LeadsBy site class which from number to

-- ---- where inputs were found from

-- The search starts from the input at a place; or it stands earlier where it was found from, and an occurrence leads here.
abbrev pub IsOrigin : Site → Class → Executed → List SiteInput → List SiteInput → ℕ → SiteInput → Option Origin → Type 0
IsOrigin site class which start found place to None = Contains start to
IsOrigin site class which start found place to (Some origin) = (origin.place < place) × (slice_get found origin.place ≡ Some origin.row.input)
    × IsNumberTo site class which origin.row.input to origin.row.number

-- of each input, at the same place
pub record AreRooted (site : Site) (class : Class) (which : Executed) (start found : List SiteInput) (origins : List (Option Origin)) : Type 0 where
  pub many : length origins ≡ length found
  pub each : (place : ℕ) (to : SiteInput) (origin : Option Origin) → slice_get found place ≡ Some to → slice_get origins place ≡ Some origin
      → IsOrigin site class which start found place to origin

-- All of those that the search starts from, with all that their occurrences lead to, and nothing else.
pub record IsSpread (site : Site) (class : Class) (which : Executed) (start found : List SiteInput) (origins : List (Option Origin)) : Type 0 where
  pub there : (x : SiteInput) → Contains found x → IsInput site x
  pub starts : (x : SiteInput) → Contains start x → Contains found x
  pub closed : (from to : SiteInput) → Contains found from → LeadsOn site class which from to → Contains found to
  pub rooted : AreRooted site class which start found origins
