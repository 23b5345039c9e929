-- Where the occurrences of a list lead messages of a class, to inputs and to lists of the relay, kept for the list of each input.
use Rattle.std.specs.Prelude.{◌≡◌, ℕ, Some, ◌<◌, ◌==◌, ◌↔◌, Bool, true, Contains, List, length}
use Rattle.sy_wire.specs.declared.class.Class.{Class}
use Rattle.sy_rules.specs.declared.lists.occurrence.Occurrence.TheVariants as occurrence
use Rattle.sy_site.specs.declared.site.SiteInput.{SiteInput}
use Rattle.sy_site.specs.Sites.{Site, target, plan_at}
use Rattle.sy_site.specs.machine.Reach.{MustDo, PostsOn, Reaches, list_of}
use Rattle.std.specs.List.{IsDistinct, list_any}
use Rattle.sy_rules.specs.PlanValue.{Plan}
use Rattle.sy_board.specs.relay.Spares.{Scope}
use Rattle.sy_flows.specs.declared.flows.executed.Executed.{Executed}
use Rattle.sy_flows.specs.declared.flows.executed.Executed.TheVariants as executed
use Rattle.sy_flows.specs.declared.flows.ClassFlows.{ClassFlows}
use Rattle.sy_flows.specs.declared.flows.Hop.{Hop}
use Rattle.sy_flows.specs.declared.flows.ListHops.{ListHops}
use Rattle.sy_flows.specs.declared.flows.RelayHops.{RelayHops}
use Rattle.sy_flows.specs.declared.flows.SiteHops.{SiteHops}
use Rattle.sy_flows.specs.Flows.{AreEach, AreSiteFlows}

-- ---- where occurrences lead

-- It must be executed, isn't spare, and is a forward to the input.
pub record MustForward (site : Site) (class : Class) (relay list number : ℕ) (to : SiteInput) : Type 0 where
  pub action : ℕ
  pub does : MustDo site class relay list number (occurrence.Run action)
  pub leads : target site (record { relay = relay; action = action }) ≡ Some to

-- An occurrence of a list leads messages to an input: it reaches it, or must forward them there.
abbrev pub Leads : Site → Class → Executed → ℕ → ℕ → ℕ → SiteInput → Type 0
Leads site class executed.Every relay list number to = Reaches site class Scope.Every relay list number to
Leads site class executed.Firm relay list number to = Reaches site class Scope.Firm relay list number to
Leads site class executed.Must relay list number to = MustForward site class relay list number to

-- the same of the list of an input
abbrev pub LeadsBy : Site → Class → Executed → SiteInput → ℕ → SiteInput → Type 0
LeadsBy site class which from number to = Leads site class which from.relay (list_of site from) number to

-- ---- what is kept

-- Each of these leads there, and wherever an occurrence of the list leads, one of these does.
pub record AreHops (site : Site) (class : Class) (which : Executed) (relay list : ℕ) (hops : List Hop) : Type 0 where
  pub sound : (hop : Hop) → Contains hops hop → (hop.number < 64) × Leads site class which relay list hop.number hop.to
  pub whole : (number : ℕ) (to : SiteInput) → Leads site class which relay list number to → (hop : Hop) × Contains hops hop × (hop.to ≡ to)

-- Posts lead from a list of a relay to another one, one after another and at least one, of those that are executed. What must be executed leads on by
-- forwards alone.
abbrev pub LeadsByPosts : Site → Class → Executed → ℕ → ℕ → ℕ → Type 0
LeadsByPosts site class executed.Every relay list to = PostsOn site class Scope.Every relay list to
LeadsByPosts site class executed.Firm relay list to = PostsOn site class Scope.Firm relay list to
LeadsByPosts site class executed.Must relay list to = ⊥

-- no list twice, and each is one of the plan's
pub record AreApart (many : ℕ) (lists : List ℕ) : Type 0 where
  pub distinct : IsDistinct ◌==◌ lists
  pub there : (list : ℕ) → Contains lists list → list < many

-- Posts lead to each of these lists, and to no other.
pub record AreLists (site : Site) (class : Class) (which : Executed) (relay list : ℕ) (lists : List ℕ) : Type 0 where
  pub each : (to : ℕ) → Contains lists to ↔ LeadsByPosts site class which relay list to
  pub apart : AreApart (length (plan_at site relay).lists) lists

-- where the occurrences of a list lead
pub record AreListHops (site : Site) (class : Class) (which : Executed) (relay list : ℕ) (of : ListHops) : Type 0 where
  pub hops : AreHops site class which relay list of.hops.items
  pub lists : AreLists site class which relay list of.lists.items

-- an input has the list
abbrev pub is_input_list : Plan → ℕ → Bool
is_input_list plan list = list_any (λ i. i.list == list) plan.inputs

-- of each list of a relay that an input has
abbrev pub AreRelayHops : Site → Class → Executed → ℕ → RelayHops → Type 0
AreRelayHops site class which relay hops = AreEach
    (λ list of. is_input_list (plan_at site relay) list ≡ true → AreListHops site class which relay list of)
    (length (plan_at site relay).lists) hops.lists.items

-- of each relay
abbrev pub AreSiteHops : Site → Class → Executed → SiteHops → Type 0
AreSiteHops site class which hops = AreEach (AreRelayHops site class which) (length site.relays) hops.relays.items

-- What a class executes of each list, and where that leads.
pub record AreFlows (site : Site) (class : Class) (flows : ClassFlows) : Type 0 where
  pub lists : AreSiteFlows site class flows.lists
  pub every : AreSiteHops site class executed.Every flows.every
  pub firm : AreSiteHops site class executed.Firm flows.firm
