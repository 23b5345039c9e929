-- Inputs that are reached are there, and there are few.
use Rattle.std.proofs.Common.{◌≡◌, ℕ, ◌<◌, ◌==◌, List, length, get_or, Option, Some, None, refl, subst}
use Rattle.std.specs.Prelude.{Contains, option_and_then, option_map, slice_get}
use Rattle.std.specs.List.{position}
use Rattle.std.proofs.lemmas.List.Quantifiers.{position-Some}
use Rattle.std.proofs.lemmas.Option.{slice_get-get_or, slice_get_within}
use Rattle.sy_wire.specs.declared.class.Class.{Class}
use Rattle.sy_rules.specs.declared.parameters.objects.Destination.{Destination}
use Rattle.sy_rules.specs.declared.parameters.objects.Destination.TheVariants as destination
use Rattle.sy_rules.specs.declared.parameters.settings.FlowControl.TheVariants as control
use Rattle.sy_rules.specs.declared.parts.Action.{Action}
use Rattle.sy_rules.specs.declared.parts.Input.{Input}
use Rattle.sy_site.specs.declared.site.SiteInput.{SiteInput}
use Rattle.sy_site.specs.Sites.{Relay, Site, input_at_port, plan_at, plan_in, relay_named, target_of}
use Rattle.sy_site.specs.machine.Lawful.{IsInput, IsLawful}
use Rattle.sy_board.specs.relay.Spares.{Scope}
use Rattle.sy_site.specs.machine.Reach.{Reach, Reaches, entry, forwards, list_of, onward, posts}
use Rattle.sy_flows.specs.declared.flows.executed.Executed.{Executed}
use Rattle.sy_flows.specs.declared.flows.executed.Executed.TheVariants as executed
use Rattle.sy_flows.specs.Hops.{Leads}

no_value : {A : Type 0} {x : A} → None ≡ Some x → ⊥
no_value e = cc

one_value : {A : Type 0} {x y : A} → Some x ≡ Some y → x ≡ y
one_value e = cc

-- ---- where forwards lead

no_input : Input
no_input = record { port = 1; flow = control.Off; list = 0; queue = 0; unread_file = None }

at_port : (site : Site) (relay port : ℕ) (found : Option ℕ) → position (λ i. i.port == port) (plan_at site relay).inputs ≡ found → (e : SiteInput)
    → option_map (λ i. record { relay = relay; input = i }) found ≡ Some e → IsInput site e
at_port site relay port None is e none = absurd (no_value none)
at_port site relay port (Some i) is e some =
    let inputs = (plan_at site relay).inputs in
    let at = position-Some (λ (i : Input). i.port == port) inputs i no_input is in
    subst (IsInput site) (one_value some) (record { parts = get_or inputs i no_input; found = slice_get-get_or inputs i no_input at.0 })

at_relay : (site : Site) (port : ℕ) (found : Option ℕ) (e : SiteInput) → option_and_then (λ relay. input_at_port site relay port) found ≡ Some e
    → IsInput site e
at_relay site port None e none = absurd (no_value none)
at_relay site port (Some relay) e some = at_port site relay port (position (λ i. i.port == port) (plan_at site relay).inputs) refl e some

leads_there : (site : Site) (name : List ℕ) (d : Destination) (retry : Option ℕ) (wait : ℕ) (e : SiteInput)
    → target_of site (Some (record { name = name; destination = d; retry = retry; resume_interval = wait })) ≡ Some e → IsInput site e
leads_there site name (destination.Archive file) retry wait e some = absurd (no_value some)
leads_there site name (destination.Forward to port) retry wait e some = at_relay site port (relay_named site.relays to) e some

pub target_there : (site : Site) (action : Option Action) (e : SiteInput) → target_of site action ≡ Some e → IsInput site e
target_there site None e none = absurd (no_value none)
target_there site (Some action) e some = leads_there site action.name action.destination action.retry action.resume_interval e some

-- ---- what occurrences reach

pub reaches_there : (site : Site) (class : Class) (scope : Scope) (relay list number : ℕ) (to : SiteInput)
    → Reaches site class scope relay list number to → IsInput site to
reaches_there site class scope relay list number to (forwards at action does leads) =
    target_there site (slice_get (plan_at site relay).actions action) to leads
reaches_there site class scope relay list number to (posts at inner next does later) = reaches_there site class scope relay inner next to later

pub lead_there : (site : Site) (class : Class) (which : Executed) (relay list number : ℕ) (to : SiteInput)
    → Leads site class which relay list number to → IsInput site to
lead_there site class executed.Every relay list number to leads = reaches_there site class Scope.Every relay list number to leads
lead_there site class executed.Firm relay list number to leads = reaches_there site class Scope.Firm relay list number to leads
lead_there site class executed.Must relay list number to must =
    target_there site (slice_get (plan_at site relay).actions must.action) to must.leads

-- ---- reached inputs

pub entry_there : (site : Site) → IsLawful site → (input : SiteInput) → Contains site.entries input → IsInput site input
entry_there site law input (k, low, is) = subst (IsInput site) is (law.entries k input low)

pub reach_there : (site : Site) → IsLawful site → (class : Class) (scope : Scope) (input : SiteInput) → Reach site class scope input → IsInput site input
reach_there site law class scope input (entry is) = entry_there site law input is
reach_there site law class scope input (onward {from} number before goes) =
    reaches_there site class scope from.relay (list_of site from) number input goes

-- ---- the numbers of inputs

plan_there : (found : Option Relay) (i : ℕ) (part : Input) → slice_get (plan_in found).inputs i ≡ Some part → (relay : Relay) × (found ≡ Some relay)
plan_there None i part none = absurd (no_value none)
plan_there (Some relay) i part is = (relay, refl)

-- its relay is there
pub relay_there : (site : Site) (input : SiteInput) → IsInput site input → input.relay < length site.relays
relay_there site input is =
    let relay = plan_there (slice_get site.relays input.relay) input.input is.parts is.found in
    slice_get_within site.relays input.relay relay.0 relay.1

pub place_there : (site : Site) (input : SiteInput) → IsInput site input → input.input < length (plan_at site input.relay).inputs
place_there site input is = slice_get_within (plan_at site input.relay).inputs input.input is.parts is.found
