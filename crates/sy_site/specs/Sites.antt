-- A site as a value (this profile's own): the relays of one site file, the inputs that messages of its policy enter by,
-- and what of them is to come to which archive.
use Rattle.std.specs.Prelude.{ℕ, Bool, ◌==◌, ◌&&◌, not, if◌then◌else◌, List, [], ◌∷◌, Option, Some, None, option_and_then, option_map, slice_get}
use Rattle.std.specs.List.{list_any, position}
use Rattle.std.specs.Str.{bytes_eq}
use Rattle.std.specs.declared.net.ip_addr.IpAddr.{IpAddr}
use Rattle.std.specs.declared.net.ip_addr.IpAddr.TheVariants as ip
use Rattle.sy_site.specs.declared.site.host.Host.TheVariants as host
use Rattle.sy_wire.specs.declared.class.Class.{Class}
use Rattle.sy_select.specs.Selectors.{holds}
use Rattle.sy_rules.specs.declared.parameters.objects.Destination.{Destination}
use Rattle.sy_rules.specs.declared.parameters.objects.Destination.TheVariants as destination
use Rattle.sy_rules.specs.declared.parts.Action.{Action}
use Rattle.sy_rules.specs.declared.lists.occurrence.Occurrence.{Occurrence}
use Rattle.sy_rules.specs.PlanValue.{Plan}
use Rattle.sy_board.specs.relay.Spares.{is_spare_action, is_spare_occurrence, is_spare_own}
-- an input and an action of a relay, each by its number, what a protect line and an outside line say, and where others connect, as the code has them
pub use Rattle.sy_site.specs.declared.site.host.Host.{Host}
pub use Rattle.sy_site.specs.declared.site.host.Outside.{Outside}
pub use Rattle.sy_site.specs.declared.site.Protection.{Protection}
pub use Rattle.sy_site.specs.declared.site.SiteAction.{SiteAction}
pub use Rattle.sy_site.specs.declared.site.SiteInput.{SiteInput}

-- a relay: the bytes of its name, where others connect to it, the address that it listens at (none is all of them), and its plan
pub record Relay : Type 0 where
  pub name : List ℕ
  pub host : Host
  pub listens : Option IpAddr
  pub plan : Plan

-- What a site file describes with the files that it names: relays, the inputs that audit messages enter by, what is to come to which archive, and
-- the spare actions. Of policy 1 nothing is spare.
pub record Site : Type 0 where
  -- 1 or 2
  pub policy : ℕ
  pub relays : List Relay
  pub entries : List SiteInput
  -- those of which nothing that comes in whole may be dropped
  pub whole_entries : List SiteInput
  pub protections : List Protection
  -- the spare actions: what is lost at or after one of them is no loss
  pub spares : List SiteAction
  -- the receivers that aren't Syc's
  pub outsides : List Outside

-- ---- plans and names

-- The plan of a relay that isn't there.
abbrev pub no_plan : Plan
no_plan = record { inputs = []; queues = []; workers = []; actions = []; lists = []; rulesets = 0; names = [] }

-- The plan of a relay, where there is one.
abbrev pub plan_in : Option Relay → Plan
plan_in None = no_plan
plan_in (Some relay) = relay.plan

-- The plan of the relay of this number.
abbrev pub plan_at : Site → ℕ → Plan
plan_at site relay = plan_in (slice_get site.relays relay)

-- the relay of a name
abbrev pub relay_named : List Relay → List ℕ → Option ℕ
relay_named relays name = position (λ r. bytes_eq r.name name) relays

-- the input of a relay that has this port
abbrev pub input_at_port : Site → ℕ → ℕ → Option SiteInput
input_at_port site relay port = option_map (λ i. record { relay = relay; input = i }) (position (λ i. i.port == port) (plan_at site relay).inputs)

-- ---- what actions lead to

-- where a forward leads: to the relay that it names, and there to the input of its port
abbrev pub target_of : Site → Option Action → Option SiteInput
target_of site None = None
target_of site (Some action) = leads action.destination where
  leads : Destination → Option SiteInput
  leads (destination.Archive file) = None
  leads (destination.Forward name port) = option_and_then (λ relay. input_at_port site relay port) (relay_named site.relays name)

-- Where the action of this number leads: to an input, where it is a forward and its site has such a relay and port.
abbrev pub target : Site → SiteAction → Option SiteInput
target site action = target_of site (slice_get (plan_at site action.relay).actions action.action)

-- ---- where others connect

-- 127.0.0.1
abbrev pub loopback : IpAddr
loopback = ip.V4 (record { octets = 127 ∷ 0 ∷ 0 ∷ 1 ∷ [] })

-- the address that a host is given by
abbrev pub address_in : Host → Option IpAddr
address_in (host.Address a) = Some a
address_in (host.Name name) = None

-- where the receiver of this name and port is reached, of those that aren't Syc's
abbrev pub outside_named : List Outside → List ℕ → ℕ → Option Host
outside_named [] name port = None
outside_named (it ∷ later) name port = if bytes_eq it.name name && it.port == port then Some it.host else outside_named later name port

-- ---- whole entries

abbrev pub same_input : SiteInput → SiteInput → Bool
same_input a b = a.relay == b.relay && a.input == b.input

abbrev pub is_whole : Site → SiteInput → Bool
is_whole site input = list_any (λ entry. same_input entry input) site.whole_entries

-- ---- what is spare

-- Whether two are one action.
abbrev pub same_action : SiteAction → SiteAction → Bool
same_action a b = a.relay == b.relay && a.action == b.action

-- The numbers of those of these actions that are a relay's.
abbrev pub actions_at : List SiteAction → ℕ → List ℕ
actions_at [] relay = []
actions_at (a ∷ later) relay = if a.relay == relay then a.action ∷ actions_at later relay else actions_at later relay

-- the spare actions of a relay, by their numbers, in the order of the file
abbrev pub spares_at : Site → ℕ → List ℕ
spares_at site relay = actions_at site.spares relay

-- Whether an action is spare.
abbrev pub is_spare : Site → SiteAction → Bool
is_spare site action = is_spare_action (spares_at site action.relay) action.action

-- Whether a relay's list is a spare action's own.
abbrev pub is_spare_list : Site → ℕ → ℕ → Bool
is_spare_list site relay list = is_spare_own (plan_at site relay) (spares_at site relay) list

-- Whether an occurrence of a relay is spare: it runs a spare action, or posts to that action's own list.
abbrev pub does_spare : Site → ℕ → Occurrence → Bool
does_spare site relay is = is_spare_occurrence (plan_at site relay) (spares_at site relay) is

-- ---- what is protected

-- Whether a protect line speaks of a class: its selector has it.
abbrev pub asks_for : Protection → Class → Bool
asks_for protection class = holds protection.selector class.facility class.severity

-- Whether a class is protected: a protect line speaks of it.
abbrev pub is_protected : Site → Class → Bool
is_protected site class = list_any (λ p. asks_for p class) site.protections

-- the archives of these lines for a class, each once, those left out that came before
abbrev pub archives_from : List SiteAction → List Protection → Class → List SiteAction
archives_from before [] class = []
archives_from before (p ∷ later) class =
    if asks_for p class && not (list_any (same_action p.archive) before)
    then p.archive ∷ archives_from (p.archive ∷ before) later class
    else archives_from before later class

-- the archives that are named for a class, in the order of the file
abbrev pub archives : Site → Class → List SiteAction
archives site class = archives_from [] site.protections class
