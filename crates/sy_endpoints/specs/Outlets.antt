-- Where the actions of a relay bring their messages (this profile's own).
use Rattle.std.specs.Prelude.{ℕ, List, Option, Some, None, map, slice_get}
use Rattle.std.specs.Net.Grammar.{IsIpText}
use Rattle.std.specs.declared.net.ip_addr.IpAddr.{IpAddr}
use Rattle.sy_rules.specs.declared.parameters.objects.Destination.{Destination}
use Rattle.sy_rules.specs.declared.parameters.objects.Destination.TheVariants as destination
use Rattle.sy_rules.specs.declared.parts.Action.{Action}
use Rattle.sy_site.specs.Sites.{Relay, Site, outside_named, plan_at, relay_named}
use Rattle.sy_site.specs.declared.site.host.Host.{Host}
use Rattle.sy_site.specs.declared.site.host.Host.TheVariants as host
use Rattle.sy_endpoints.specs.declared.outlets.Outlet.{Outlet}
use Rattle.sy_endpoints.specs.declared.outlets.Outlet.TheVariants as outlet

-- to the end of the file of this name; to this port of that host; to this port of the address that a text is, or nowhere where it is none
pub data Place : Type 0 where
  File : List ℕ → Place
  Link : Host → ℕ → Place
  Target : List ℕ → ℕ → Place

-- what an outlet says
abbrev pub place_of : Outlet → Place
place_of (outlet.File name) = Place.File name.now
place_of (outlet.Link host port) = Place.Link host.now port
place_of (outlet.Target target port) = Place.Target target.now port

-- the port of a host, where there is one
abbrev pub link_to : Option Host → List ℕ → ℕ → Place
link_to None target port = Place.Target target port
link_to (Some to) target port = Place.Link to port

-- the receiver of a name and a port that is no relay
abbrev pub receiver : Site → List ℕ → ℕ → Place
receiver site target port = link_to (outside_named site.outsides target port) target port

abbrev pub host_in : Option Relay → Option Host
host_in None = None
host_in (Some relay) = Some relay.host

-- this port of a relay, where there is one
abbrev pub port_of : Site → List ℕ → ℕ → Option ℕ → Place
port_of site target port None = receiver site target port
port_of site target port (Some relay) = link_to (host_in (slice_get site.relays relay)) target port

-- A forward leads to the relay that it names, whether or not that has an input at its port; else to the receiver of that name and port.
abbrev pub forward : Site → List ℕ → ℕ → Place
forward site target port = port_of site target port (relay_named site.relays target)

-- An archive leads to its file.
abbrev pub place_for : Site → Destination → Place
place_for site (destination.Archive file) = Place.File file
place_for site (destination.Forward target port) = forward site target port

abbrev pub place_for_action : Site → Action → Place
place_for_action site action = place_for site action.destination

-- those of a relay's actions, in their order
abbrev pub places : Site → ℕ → List Place
places site relay = map (place_for_action site) (plan_at site relay).actions

-- What is connected to for a place: a host and a port.
pub data ConnectsTo : Place → Host → ℕ → Type 0 where
  link : (to : Host) (port : ℕ) → ConnectsTo (Place.Link to port) to port
  address : (text : List ℕ) (port : ℕ) (to : IpAddr) → IsIpText text to → ConnectsTo (Place.Target text port) (host.Address to) port
