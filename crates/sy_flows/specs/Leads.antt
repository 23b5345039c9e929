-- Where what must be executed leads, from list to list of the relays: paths to archives, and what is found on the way.
use Rattle.std.specs.Prelude.{◌≡◌, ℕ, ◌<◌, Contains, List, Some, length, slice_get, true, ◌==◌, ◌&&◌, Bool, Option, None, option_map}
use Rattle.sy_wire.specs.declared.class.Class.{Class}
use Rattle.sy_rules.specs.declared.lists.occurrence.Occurrence.TheVariants as occurrence
use Rattle.sy_site.specs.declared.site.SiteAction.{SiteAction}
use Rattle.sy_site.specs.declared.site.SiteInput.{SiteInput}
use Rattle.sy_site.specs.Sites.{Site, plan_at, target}
use Rattle.sy_site.specs.machine.Reach.{MustDo, list_of, occurrence_at}
use Rattle.sy_flows.specs.declared.lists.InnerList.{InnerList}
use Rattle.std.specs.List.{IsDistinct}
use Rattle.sy_rules.specs.declared.lists.occurrence.Occurrence.{Occurrence}
use Rattle.sy_flows.specs.declared.lists.FoundLists.{FoundLists}
use Rattle.sy_flows.specs.declared.lists.ListOrigin.{ListOrigin}
use Rattle.sy_flows.specs.Flows.{AreEach, is_used}

-- ---- lists of relays

-- the list of an input
abbrev pub list_at : Site → SiteInput → InnerList
list_at site input = record { relay = input.relay; list = list_of site input }

abbrev pub same_list : InnerList → InnerList → Bool
same_list a b = a.relay == b.relay && a.list == b.list

-- It is there, and messages may come to it.
pub record IsThere (site : Site) (at : InnerList) : Type 0 where
  pub relay : at.relay < length site.relays
  pub list : at.list < length (plan_at site at.relay).lists
  pub used : is_used (plan_at site at.relay) at.list ≡ true

-- ---- what leads on

-- the list of the input that an action leads to
abbrev pub target_list : Site → ℕ → ℕ → Option InnerList
target_list site relay action = option_map (list_at site) (target site (record { relay = relay; action = action }))

-- the list that an occurrence leads on to
abbrev pub leads_on : Site → ℕ → Occurrence → Option InnerList
leads_on site relay (occurrence.Run action) = target_list site relay action
leads_on site relay (occurrence.Post inner) = Some (record { relay = relay; list = inner })

abbrev pub lead_in : Site → ℕ → Option Occurrence → Option InnerList
lead_in site relay None = None
lead_in site relay (Some is) = leads_on site relay is

-- the same of an occurrence by its number
abbrev pub lead_of : Site → InnerList → ℕ → Option InnerList
lead_of site at number = lead_in site at.relay (occurrence_at site at.relay at.list number)

-- It must be executed, isn't spare, and leads on to the list.
pub record MustLead (site : Site) (class : Class) (from : InnerList) (number : ℕ) (to : InnerList) : Type 0 where
  pub is : Occurrence
  pub does : MustDo site class from.relay from.list number is
  pub leads : leads_on site from.relay is ≡ Some to

-- ---- lists that are found

-- The search starts from the list at a place; or it stands earlier where it was found from, and an occurrence leads here.
abbrev pub IsListOrigin : Site → Class → InnerList → List InnerList → ℕ → InnerList → Option ListOrigin → Type 0
IsListOrigin site class start found place to None = start ≡ to
IsListOrigin site class start found place to (Some origin) = (origin.place < place) × (from : InnerList) × (slice_get found origin.place ≡ Some from)
    × (origin.number < 64) × MustLead site class from origin.number to

-- The first is where the search starts; each is there, stands once, and was found from where its origin says.
pub record AreFound (site : Site) (class : Class) (start : InnerList) (found : List InnerList) (origins : List (Option ListOrigin)) : Type 0 where
  pub there : (x : InnerList) → Contains found x → IsThere site x
  pub starts : Contains found start
  pub distinct : IsDistinct same_list found
  pub many : length origins ≡ length found
  pub each : (place : ℕ) (to : InnerList) (origin : Option ListOrigin) → slice_get found place ≡ Some to → slice_get origins place ≡ Some origin
      → IsListOrigin site class start found place to origin

-- All that the list leads on to is found.
abbrev pub IsLed : Site → Class → List InnerList → InnerList → Type 0
IsLed site class found from = (number : ℕ) (to : InnerList) → MustLead site class from number to → Contains found to

-- all that is led to from where the search starts, and nothing else
pub record AreAllFound (site : Site) (class : Class) (start : InnerList) (found : List InnerList) (origins : List (Option ListOrigin)) : Type 0 where
  pub are : AreFound site class start found origins
  pub closed : (from : InnerList) → Contains found from → IsLed site class found from

-- ---- paths

-- from the list of the entry at this place
abbrev pub IsLeadOf : Site → Class → ℕ → FoundLists → Type 0
IsLeadOf site class place found = (entry : SiteInput) → slice_get site.entries place ≡ Some entry
    → AreAllFound site class (list_at site entry) found.lists.items found.origins.items

-- from that of each entry
abbrev pub AreLeads : Site → Class → List FoundLists → Type 0
AreLeads site class leads = AreEach (IsLeadOf site class) (length site.entries) leads

-- ---- an archive that is written

-- an occurrence of the archive must be executed in the list, and isn't spare
pub record MustWrite (site : Site) (class : Class) (archive : SiteAction) (relay list : ℕ) : Type 0 where
  pub number : ℕ
  pub action : ℕ
  pub does : MustDo site class relay list number (occurrence.Run action)
  pub writes : record { relay = relay; action = action } ≡ archive

abbrev pub MustWriteAt : Site → Class → SiteAction → InnerList → Type 0
MustWriteAt site class archive at = MustWrite site class archive at.relay at.list
