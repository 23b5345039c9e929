-- The relay of a name.
use Rattle.std.proofs.Common.{◌≡◌, ℕ, ◌<◌, List, length, ap}
use Rattle.std.proofs.lemmas.List.Quantifiers.{position-Some}
use Rattle.std.specs.Prelude.{Option, Some, None, option_map}
use Rattle.std.specs.Str.{bytes_eq}
use Rattle.sy_site.specs.Sites.{Relay, no_plan, relay_named}
use Rattle.sy_site.specs.declared.site.host.Host.{Host}
use Rattle.sy_site.specs.declared.site.host.Host.TheVariants as host
use Rattle.sy_endpoints.specs.Outlets.{Place, host_in, link_to}

-- it is there
pub is_there : (relays : List Relay) (name : List ℕ) (relay : ℕ) → relay_named relays name ≡ Some relay → relay < length relays
is_there relays name relay named =
    (position-Some (λ r. bytes_eq r.name name) relays relay (record { name = name; host = host.Name name; listens = None; plan = no_plan }) named).0

one_value : {A : Type 0} {x y : A} → Some x ≡ Some y → x ≡ y
one_value e = cc

-- where one that is there is reached
pub place_there : (found : Option Relay) (to : Host) (target : List ℕ) (port : ℕ) → Some to ≡ option_map (λ r. r.host) found
    → Place.Link to port ≡ link_to (host_in found) target port
place_there None to target port is = cc
place_there (Some relay) to target port is = ap (λ h. Place.Link h port) (one_value is)
