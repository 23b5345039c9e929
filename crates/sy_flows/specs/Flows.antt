-- What messages of a class execute of the lists of a site, kept as sets of occurrences.
use Rattle.std.specs.Prelude.{◌≡◌, ℕ, ◌↔◌, List, Some, length, slice_get, true, ◌==◌, ◌||◌, Bool, false, is_some}
use Rattle.sy_wire.specs.declared.class.Class.{Class}
use Rattle.sy_rules.specs.declared.lists.occurrence.Occurrence.{Occurrence}
use Rattle.sy_board.specs.relay.Spares.{Scope}
use Rattle.sy_site.specs.Sites.{Site, plan_at, does_spare}
use Rattle.sy_site.specs.machine.Reach.{MayDo, MustDo, occurrence_at}
use Rattle.sy_flows.specs.declared.flows.executed.Executed.{Executed}
use Rattle.sy_flows.specs.declared.flows.executed.Executed.TheVariants as executed
use Rattle.sy_flows.specs.declared.flows.RelayFlows.{RelayFlows}
use Rattle.sy_flows.specs.declared.flows.SiteFlows.{SiteFlows}
use Rattle.std.specs.Int.{bit_at}
use Rattle.std.specs.List.{list_any}
use Rattle.sy_rules.specs.PlanValue.{Plan}
use Rattle.sy_rules.specs.Whole.{queue_at}
use Rattle.sy_flows.specs.declared.flows.firm.RelayFirm.{RelayFirm}
use Rattle.sy_flows.specs.declared.flows.firm.SiteFirm.{SiteFirm}
use Rattle.sy_flows.specs.declared.flows.ListFlows.{ListFlows}

-- so many, each as it is to be at its place
pub record AreEach {A : Type 0} (P : ℕ → A → Type 0) (many : ℕ) (xs : List A) : Type 0 where
  pub length_is : length xs ≡ many
  pub each : (place : ℕ) (x : A) → slice_get xs place ≡ Some x → P place x

-- ---- occurrences that aren't spare

-- The set has the occurrences of a list that aren't spare.
abbrev pub IsFirm : Site → ℕ → ℕ → ℕ → Type 0
IsFirm site relay list set = (number : ℕ) (is : Occurrence) → occurrence_at site relay list number ≡ Some is
    → (bit_at set number ≡ 1) ↔ (does_spare site relay is ≡ false)

-- of each list of a relay
abbrev pub AreRelayFirm : Site → ℕ → RelayFirm → Type 0
AreRelayFirm site relay sets = AreEach (IsFirm site relay) (length (plan_at site relay).lists) sets.lists.items

-- of each relay
abbrev pub AreFirm : Site → SiteFirm → Type 0
AreFirm site sets = AreEach (AreRelayFirm site) (length site.relays) sets.relays.items

-- ---- what is executed

-- An occurrence of a list is executed: it may be, it may be and isn't spare, or it must be and isn't spare.
abbrev pub Does : Site → Class → Executed → ℕ → ℕ → ℕ → Occurrence → Type 0
Does site class executed.Every relay list number is = MayDo site class Scope.Every relay list number is
Does site class executed.Firm relay list number is = MayDo site class Scope.Firm relay list number is
Does site class executed.Must relay list number is = MustDo site class relay list number is

-- The set has the occurrences of a list that are executed.
pub record IsSet (site : Site) (class : Class) (which : Executed) (relay list set : ℕ) : Type 0 where
  pub sound : (number : ℕ) (is : Occurrence) → bit_at set number ≡ 1 → occurrence_at site relay list number ≡ Some is
      → Does site class which relay list number is
  pub whole : (number : ℕ) (is : Occurrence) → Does site class which relay list number is → bit_at set number ≡ 1

abbrev pub set_of : ListFlows → Executed → ℕ
set_of flow executed.Every = flow.every
set_of flow executed.Firm = flow.firm
set_of flow executed.Must = flow.must

-- of each way to execute
abbrev pub IsFlow : Site → Class → ℕ → ℕ → ListFlows → Type 0
IsFlow site class relay list flow = (which : Executed) → IsSet site class which relay list (set_of flow which)

-- whether messages may come to a list: a queue leads to it, or an input has it
abbrev pub is_used : Plan → ℕ → Bool
is_used plan list = is_some (queue_at plan list) || list_any (λ i. i.list == list) plan.inputs

-- of each list of a relay that messages may come to
abbrev pub AreRelayFlows : Site → Class → ℕ → RelayFlows → Type 0
AreRelayFlows site class relay flows = AreEach (λ list flow. is_used (plan_at site relay) list ≡ true → IsFlow site class relay list flow)
    (length (plan_at site relay).lists) flows.lists.items

-- of each relay
abbrev pub AreSiteFlows : Site → Class → SiteFlows → Type 0
AreSiteFlows site class flows = AreEach (AreRelayFlows site class) (length site.relays) flows.relays.items

-- the same of each list
pub record AreSame (one other : SiteFlows) : Type 0 where
  pub many : length one.relays.items ≡ length other.relays.items
  pub each : (relay : ℕ) (a b : RelayFlows) → slice_get one.relays.items relay ≡ Some a → slice_get other.relays.items relay ≡ Some b
      → a.lists.items ≡ b.lists.items
