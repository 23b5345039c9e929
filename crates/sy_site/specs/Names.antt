-- The names and ports of what a site has, as texts say them.
use Rattle.std.specs.Prelude.{ℕ, List, [], Option, Some, None, slice_get}
use Rattle.sy_rules.specs.declared.parts.Action.{Action}
use Rattle.sy_board.specs.relay.Plans.{input_at}
use Rattle.sy_site.specs.declared.site.SiteAction.{SiteAction}
use Rattle.sy_site.specs.declared.site.SiteInput.{SiteInput}
use Rattle.sy_site.specs.Sites.{Relay, Site, plan_at}

-- ---- what the rows name

abbrev pub name_in : Option Relay → List ℕ
name_in None = []
name_in (Some relay) = relay.name

-- the name of a relay
abbrev pub name_of : Site → ℕ → List ℕ
name_of site relay = name_in (slice_get site.relays relay)

abbrev pub port_of : Site → SiteInput → ℕ
port_of site input = (input_at (plan_at site input.relay) input.input).port

abbrev pub name_of_action : Option Action → List ℕ
name_of_action None = []
name_of_action (Some action) = action.name

abbrev pub action_name : Site → SiteAction → List ℕ
action_name site action = name_of_action (slice_get (plan_at site action.relay).actions action.action)
