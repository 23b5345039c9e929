-- What the private functions say that judge one input.
use Rattle.std.specs.Prelude.{◌≡◌, ℕ, ◌==◌, ◌&&◌, not, Bool, true, false, Option, Some, None, is_none, is_some, slice_get}
use Rattle.sy_wire.specs.declared.class.Class.{Class}
use Rattle.sy_rules.specs.declared.lists.occurrence.Occurrence.{Occurrence}
use Rattle.sy_rules.specs.declared.lists.occurrence.Occurrence.TheVariants as occurrence
use Rattle.sy_rules.specs.declared.parameters.objects.Destination.{Destination}
use Rattle.sy_rules.specs.declared.parameters.objects.Destination.TheVariants as destination
use Rattle.sy_rules.specs.declared.parameters.settings.FlowControl.{FlowControl}
use Rattle.sy_rules.specs.declared.parameters.settings.FlowControl.TheVariants as control
use Rattle.sy_rules.specs.declared.parts.Action.{Action}
use Rattle.sy_rules.specs.declared.parts.Input.{Input}
use Rattle.sy_rules.specs.PlanValue.{Plan}
use Rattle.sy_rules.specs.Whole.{queue_for}
use Rattle.sy_board.specs.relay.Kinds.{MayLose}
use Rattle.sy_board.specs.relay.Plans.{occurrences_at, post_flow, retry_at}
use Rattle.sy_board.specs.relay.Spares.{Scope}
use Rattle.sy_site.specs.declared.site.SiteInput.{SiteInput}
use Rattle.sy_site.specs.Sites.{Site, plan_at, target}
use Rattle.sy_site.specs.machine.Findings.{HoldsAt}
use Rattle.sy_site.specs.machine.Reach.{MayDo, PostsOn, list_of, occurrence_at}
use Rattle.sy_fit.specs.declared.kinds.Risk.{Risk}
use Rattle.sy_fit.specs.declared.kinds.Risk.TheVariants as risks
use Rattle.sy_fit.specs.Risks.{kind_of}

-- ---- feeders

abbrev pub is_full_delay : FlowControl → Bool
is_full_delay control.Full = true
is_full_delay control.On = false
is_full_delay control.Off = false

-- an input of the queue that isn't a full-delay one
abbrev pub is_free : ℕ → Input → Bool
is_free queue i = i.queue == queue && not (is_full_delay i.flow)

-- an occurrence puts messages into the queue
abbrev pub posts_into : Plan → ℕ → Occurrence → Bool
posts_into plan queue (occurrence.Run action) = false
posts_into plan queue (occurrence.Post list) = queue_for plan list == queue

pub record HasPost (plan : Plan) (queue : ℕ) : Type 0 where
  pub list : ℕ
  pub number : ℕ
  pub to : ℕ
  pub posts : slice_get (occurrences_at plan list) number ≡ Some (occurrence.Post to)
  pub leads : queue_for plan to ≡ queue

-- ---- occurrences

abbrev pub sends : Destination → Bool
sends (destination.Archive file) = false
sends (destination.Forward name port) = true

abbrev pub is_forward : Option Action → Bool
is_forward None = false
is_forward (Some action) = sends action.destination

-- a post into the queue can lose messages of the class on the way
abbrev pub MayLoseByPost : Plan → Class → ℕ → Type 0
MayLoseByPost plan class queue = MayLose plan class queue (post_flow plan queue)

abbrev pub run_risks : Site → ℕ → Risk → ℕ → Bool
run_risks site relay risks.Post action = false
run_risks site relay risks.GivesUp action = is_some (retry_at (plan_at site relay) action)
run_risks site relay risks.NoTarget action =
    is_forward (slice_get (plan_at site relay).actions action) && is_none (target site (record { relay = relay; action = action }))

abbrev pub PostRisks : Site → Class → ℕ → Risk → ℕ → Type 0
PostRisks site class relay risks.Post list = MayLoseByPost (plan_at site relay) class (queue_for (plan_at site relay) list)
PostRisks site class relay risks.GivesUp list = ⊥
PostRisks site class relay risks.NoTarget list = ⊥

abbrev pub IsRisk : Site → Class → ℕ → Risk → Occurrence → Type 0
IsRisk site class relay risk (occurrence.Post list) = PostRisks site class relay risk list
IsRisk site class relay risk (occurrence.Run action) = run_risks site relay risk action ≡ true

-- the occurrence of a list that has this number
pub record HasRisk (site : Site) (class : Class) (relay list number : ℕ) (risk : Risk) : Type 0 where
  pub is : Occurrence
  pub there : occurrence_at site relay list number ≡ Some is
  pub risky : IsRisk site class relay risk is

-- one of a list that may be executed and isn't spare
pub record ListRisks (site : Site) (class : Class) (relay list : ℕ) (risk : Risk) : Type 0 where
  pub number : ℕ
  pub is : Occurrence
  pub does : MayDo site class Scope.Firm relay list number is
  pub risky : IsRisk site class relay risk is

-- one of a list that posts lead to from the input's own
pub record PostedRisks (site : Site) (class : Class) (input : SiteInput) (risk : Risk) : Type 0 where
  pub list : ℕ
  pub posted : PostsOn site class Scope.Firm input.relay (list_of site input) list
  pub risky : ListRisks site class input.relay list risk

-- one of the kinds 5 to 7 holds
abbrev pub IsRisky : Site → Class → SiteInput → Type 0
IsRisky site class input = (risk : Risk) × HoldsAt site class input (kind_of risk)
