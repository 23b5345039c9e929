-- Ports and actions at one place.
use Rattle.std.proofs.Common.{◌≡◌, ◌<◌, ℕ, List, length, refl, sym, subst, ap}
use Rattle.std.specs.Prelude.{Option, Some, None, slice_get}
use Rattle.std.proofs.NetLemmas.Theorems.{IsIpText_unique}
use Rattle.std.proofs.lemmas.Option.{slice_get_within}
use Rattle.sy_rules.specs.declared.parts.Action.{Action}
use Rattle.sy_rules.specs.declared.parts.Input.{Input}
use Rattle.sy_site.specs.Sites.{Relay, Site, plan_at, plan_in}
use Rattle.sy_site.specs.declared.site.host.Host.{Host}
use Rattle.sy_site.specs.declared.site.host.Host.TheVariants as host
use Rattle.sy_endpoints.specs.Endpoints.{IsAtPort, ShareAPort}
use Rattle.sy_endpoints.specs.Hosts.{host_of}
use Rattle.sy_endpoints.specs.Outlets.{ConnectsTo, Place, place_of}
use Rattle.sy_endpoints.specs.declared.hosts.Peer.{Peer}
use Rattle.sy_endpoints.specs.declared.outlets.Outlet.{Outlet}
use Rattle.sy_endpoints.proofs.Searches.{same_there}

-- no other input has the port of this one
pub none_shares : (inputs others : List Input) (number : ℕ) (input : Input) → slice_get inputs number ≡ Some input
    → ((n : ℕ) → IsAtPort others n input.port → ⊥) → (other : ℕ) × ShareAPort inputs others number other → ⊥
none_shares inputs others number input at none found =
    none found.0 (subst (λ (i : Input). IsAtPort others found.0 i.port) (same_there found.1.there at) found.1.same)

-- the same of other lists
pub shared_of : (inputs others own its : List Input) (one other : ℕ) → inputs ≡ own → others ≡ its → ShareAPort own its one other
    → ShareAPort inputs others one other
shared_of inputs others own its one other same also is =
    subst (λ xs. ShareAPort xs others one other) (sym same) (subst (λ xs. ShareAPort own xs one other) (sym also) is)

-- a link is connected to
pub linked : (outlet : Outlet) (to : Host) (peer : Peer) (port : ℕ) → place_of outlet ≡ Place.Link to port → host_of peer ≡ to
    → ConnectsTo (place_of outlet) (host_of peer) port
linked outlet to peer port is same =
    subst (λ place. ConnectsTo place (host_of peer) port) (sym is) (subst (λ h. ConnectsTo (Place.Link to port) h port) (sym same) (ConnectsTo.link to port))

-- a place is connected to in one way
pub one_connection : (place : Place) (a b : Host) (p q : ℕ) → ConnectsTo place a p → ConnectsTo place b q → (a ≡ b) × (p ≡ q)
one_connection (Place.File name) a b p q one other = elim one [ ]
one_connection (Place.Link to port) a b p q (ConnectsTo.link x y) (ConnectsTo.link z w) = (refl, refl)
one_connection (Place.Target text port) a b p q (ConnectsTo.address s r x h) (ConnectsTo.address t u y k) =
    (ap host.Address (IsIpText_unique text x y h k), refl)

-- a relay that has an action is there
some_plan : (found : Option Relay) (action : ℕ) (x : Action) → slice_get (plan_in found).actions action ≡ Some x → (r : Relay) × (found ≡ Some r)
some_plan None action x is = absurd (cc)
some_plan (Some r) action x is = (r, refl)

pub relay_there : (site : Site) (relay action : ℕ) (x : Action) → slice_get (plan_at site relay).actions action ≡ Some x → relay < length site.relays
relay_there site relay action x is =
    let found = some_plan (slice_get site.relays relay) action x is in slice_get_within site.relays relay found.0 found.1
