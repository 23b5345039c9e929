-- Whether the endpoints of a site, which are hosts with ports, are told apart (this profile's own).
use Rattle.std.specs.Prelude.{◌≡◌, ◌<◌, ℕ, List, Some, slice_get}
use Rattle.sy_rules.specs.declared.parameters.objects.Destination.{Destination}
use Rattle.sy_rules.specs.declared.parameters.objects.Destination.TheVariants as destination
use Rattle.sy_rules.specs.declared.parts.Action.{Action}
use Rattle.sy_rules.specs.declared.parts.Input.{Input}
use Rattle.sy_site.specs.Sites.{Relay, Site, plan_at, relay_named}
use Rattle.sy_site.specs.declared.site.SiteInput.{SiteInput}
use Rattle.sy_site.specs.declared.site.host.Host.{Host}
use Rattle.sy_endpoints.specs.Hosts.{IsHome, IsNoHost, MayBeOne}
use Rattle.sy_endpoints.specs.Outlets.{ConnectsTo, place_for}
use Rattle.sy_endpoints.specs.declared.endpoints.Clash.{Clash}
use Rattle.sy_endpoints.specs.declared.endpoints.Clash.TheVariants as clash

-- the input of this number has this port
pub record IsAtPort (inputs : List Input) (number port : ℕ) : Type 0 where
  pub input : Input
  pub there : slice_get inputs number ≡ Some input
  pub port_is : input.port ≡ port

-- ---- inputs of two relays

-- An input of some and one of others have one port.
pub record ShareAPort (inputs others : List Input) (one other : ℕ) : Type 0 where
  pub input : Input
  pub there : slice_get inputs one ≡ Some input
  pub same : IsAtPort others other input.port

-- Two relays may be reached at one host.
pub record MayMeet (site : Site) (relay earlier : ℕ) : Type 0 where
  pub one : Relay
  pub other : Relay
  pub one_is : slice_get site.relays relay ≡ Some one
  pub other_is : slice_get site.relays earlier ≡ Some other
  pub may : MayBeOne one.host other.host

-- These inputs of theirs can be reached at one endpoint.
pub record MeetBy (site : Site) (relay earlier one other : ℕ) : Type 0 where
  pub hosts : MayMeet site relay earlier
  pub ports : ShareAPort (plan_at site relay).inputs (plan_at site earlier).inputs one other

-- An input of a relay and one of an earlier relay can be reached at one endpoint: their relays may be reached at one host, and they have one port.
pub record Meet (site : Site) (input earlier : SiteInput) : Type 0 where
  pub is_earlier : earlier.relay < input.relay
  pub by : MeetBy site input.relay earlier.relay input.input earlier.input

abbrev pub MeetsNone : Site → ℕ → Type 0
MeetsNone site relay = (one : ℕ) (earlier : SiteInput) → Meet site (record { relay = relay; input = one }) earlier → ⊥

-- No two inputs of two relays can be reached at one endpoint.
abbrev pub AreApart : Site → Type 0
AreApart site = (input earlier : SiteInput) → Meet site input earlier → ⊥

-- ---- forwards that lead back

-- a forward names this relay
abbrev pub Names : Site → ℕ → Destination → Type 0
Names site relay (destination.Archive file) = ⊥
Names site relay (destination.Forward target port) = relay_named site.relays target ≡ Some relay

-- A relay is reached at that host, or hears what is sent there.
pub record IsAtHome (site : Site) (relay : ℕ) (to : Host) : Type 0 where
  pub own : Relay
  pub own_is : slice_get site.relays relay ≡ Some own
  pub home : IsHome own.host own.listens to

-- An input of that relay is reached at this port of that host.
pub record IsReachedAt (site : Site) (relay : ℕ) (to : Host) (port input : ℕ) : Type 0 where
  pub home : IsAtHome site relay to
  pub at : IsAtPort (plan_at site relay).inputs input port

-- What the relay brings there comes to an input of its own, and it doesn't name itself.
pub record LeadsHome (site : Site) (relay : ℕ) (is : Destination) (input : ℕ) : Type 0 where
  pub elsewhere : Names site relay is → ⊥
  pub to : Host
  pub port : ℕ
  pub connects : ConnectsTo (place_for site is) to port
  pub reached : IsReachedAt site relay to port input

pub record IsHomeward (site : Site) (relay action input : ℕ) : Type 0 where
  pub is : Action
  pub there : slice_get (plan_at site relay).actions action ≡ Some is
  pub leads : LeadsHome site relay is.destination input

-- No action of the relay leads so.
abbrev pub LeadAway : Site → ℕ → Type 0
LeadAway site relay = (action input : ℕ) → IsHomeward site relay action input → ⊥

-- ---- addresses of no host

-- What is connected to is no host.
pub record LeadsToNoHost (site : Site) (is : Destination) : Type 0 where
  pub to : Host
  pub port : ℕ
  pub connects : ConnectsTo (place_for site is) to port
  pub no_host : IsNoHost to

pub record IsToNoHost (site : Site) (relay action : ℕ) : Type 0 where
  pub is : Action
  pub there : slice_get (plan_at site relay).actions action ≡ Some is
  pub leads : LeadsToNoHost site is.destination

-- No action of any relay connects to an address that is no host's.
abbrev pub LeadToHosts : Site → Type 0
LeadToHosts site = (relay action : ℕ) → IsToNoHost site relay action → ⊥

-- ---- all

-- Endpoints are told apart, for a relay: no inputs of two relays of the site can be reached at one endpoint, no action of the relay leads back to it but
-- by its name, and none of the site connects to an address that is no host's. So each link leads where the site's machine has it, as far as addresses
-- say it.
pub record AreEndpoints (site : Site) (relay : ℕ) : Type 0 where
  pub apart : AreApart site
  pub away : LeadAway site relay
  pub hosts : LeadToHosts site

-- that isn't so
abbrev pub IsClash : Site → ℕ → Clash → Type 0
IsClash site relay (clash.Shared found) = Meet site found.input found.earlier
IsClash site relay (clash.Own found) = IsHomeward site relay found.action found.input
IsClash site relay (clash.NoHost found) = IsToNoHost site found.relay found.action
