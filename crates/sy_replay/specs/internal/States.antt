-- What a replay's parts say of its plans and lists.
use Rattle.std.specs.Prelude.{◌≡◌, ℕ, List, Option, Some, None, length, slice_get}
use Rattle.sy_rules.specs.PlanValue.{Plan}
use Rattle.sy_site.specs.Sites.{Site, no_plan, plan_at}
use Rattle.sy_site.specs.machine.States.{Arrival, Copy, Loss}
use Rattle.sy_site.specs.machine.Steps.{SiteEvent}
use Rattle.sy_replay.specs.declared.event.Illegal.{Illegal}
use Rattle.sy_replay.specs.Parts.{PartState}
use Rattle.sy_replay.specs.States.{holding, Applies, IsIllegalAt}

abbrev pub plan_of : Option PartState → Plan
plan_of None = no_plan
plan_of (Some part) = part.board.plan

-- The relays are those of the site: each has its plan.
abbrev pub AreOf : Site → List PartState → Type 0
AreOf site parts = (r : ℕ) → plan_at site r ≡ plan_of (slice_get parts r)

-- Each relay has the plan that it had.
abbrev pub HaveSamePlans : List PartState → List PartState → Type 0
HaveSamePlans old new = (r : ℕ) → plan_of (slice_get new r) ≡ plan_of (slice_get old r)

-- a list for each action
abbrev pub HasLists : PartState → Type 0
HasLists part = length part.passed ≡ length part.board.plan.actions

-- ---- events inside relays

-- the site's step from these relays to those, whatever else the site holds
abbrev pub StepsInside : List PartState → List Loss → SiteEvent → List PartState → List Loss → Type 0
StepsInside parts before event new after = (site : Site) (copies : List Copy) (arrivals : List Arrival) → AreOf site parts
    → Applies site (holding parts copies before arrivals) event (holding new copies after arrivals)

abbrev pub IsNoneInside : Illegal → List PartState → List Loss → SiteEvent → Type 0
IsNoneInside why parts losses event = (site : Site) (copies : List Copy) (arrivals : List Arrival) → AreOf site parts
    → IsIllegalAt why site (holding parts copies losses arrivals) event
