-- What the code keeps of a site (this profile's own).
use Rattle.std.specs.Prelude.{◌≡◌, ℕ, List, [], map, Option, Some, None, slice_get}
use Rattle.std.specs.Arc.{arc_value}
use Rattle.sy_site.specs.declared.site.relay.Relay.{Relay as Kept}
use Rattle.sy_site.specs.declared.site.Site.TheInside.{Inside}
use Rattle.sy_site.specs.declared.site.targets.Targets.{Targets}
use Rattle.sy_site.specs.Sites.{Relay, Site, SiteInput, target_of}
use Rattle.sy_site.specs.machine.Lawful.{IsLawful}
use Rattle.sy_site.specs.texts.Describes.{IsDescribed}

abbrev pub relay_of : Kept → Relay
relay_of r = record { name = r.name; host = r.host; listens = r.listens; plan = arc_value r.plan }

abbrev pub site_of : Inside → Site
site_of s = record {
  policy = s.policy;
  relays = map relay_of s.relays.items;
  entries = s.entries.items;
  whole_entries = s.whole_entries.items;
  protections = s.protections.items;
  spares = s.spares.items;
  outsides = s.outsides.items;
}

-- these relays without entries, protect lines, spare actions and other receivers
abbrev pub site_with : List Kept → Site
site_with relays = record { policy = 1; relays = map relay_of relays; entries = []; whole_entries = []; protections = []; spares = []; outsides = [] }

-- ---- what actions lead to, looked up once

abbrev pub inputs_of : Targets → List (Option SiteInput)
inputs_of targets = targets.inputs.items

abbrev pub in_action : Option (Option SiteInput) → Option SiteInput
in_action None = None
in_action (Some target) = target

abbrev pub in_relay : Option Targets → ℕ → Option SiteInput
in_relay None action = None
in_relay (Some targets) action = in_action (slice_get targets.inputs.items action)

abbrev pub looked_up : List Targets → ℕ → ℕ → Option SiteInput
looked_up targets relay action = in_relay (slice_get targets relay) action

-- what the actions of a relay lead to
abbrev pub targets_in : Site → Relay → List (Option SiteInput)
targets_in site relay = map (λ action. target_of site (Some action)) relay.plan.actions

-- ---- what the type keeps

abbrev pub IsKept : Inside → Type 0
IsKept s = IsLawful (site_of s) × IsDescribed (site_of s)
    × (map inputs_of s.targets.items ≡ map (λ relay. targets_in (site_with s.relays.items) (relay_of relay)) s.relays.items)
