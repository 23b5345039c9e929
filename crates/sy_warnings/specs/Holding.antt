-- What holds up protected messages: which action of a relay does, by the plans and the site file alone (this profile's own).
use Rattle.std.specs.Prelude.{◌≡◌, ℕ, ◌<◌, true, Some, None, slice_get}
use Rattle.sy_wire.specs.declared.class.Class.{Class}
use Rattle.sy_rules.specs.declared.lists.occurrence.Occurrence.{Occurrence}
use Rattle.sy_rules.specs.declared.lists.occurrence.Occurrence.TheVariants as occurrence
use Rattle.sy_rules.specs.declared.parts.Action.{Action}
use Rattle.sy_rules.specs.Whole.{queue_for}
use Rattle.sy_board.specs.relay.Spares.{Scope}
use Rattle.sy_site.specs.Sites.{Site, is_protected, is_spare, plan_at}
use Rattle.sy_site.specs.machine.Findings.{IsForward}
use Rattle.sy_site.specs.machine.Reach.{MayDo}
use Rattle.sy_warnings.specs.declared.following.Following.TheVariants as following
use Rattle.sy_warnings.specs.declared.following.SiteList.{SiteList}
use Rattle.sy_warnings.specs.Following.{Comes, IsExecuted}

-- ---- needed, and waiting

-- Protected messages need an occurrence: it isn't spare, and messages of some protected class may execute it, which came by occurrences that aren't.
abbrev pub IsNeeded : Site → SiteList → ℕ → Occurrence → Type 0
IsNeeded site at number is = IsExecuted site following.Firm at number is

-- messages of some class, whatever input they came in by, may execute it
abbrev pub MayBeExecuted : Site → SiteList → ℕ → Occurrence → Type 0
MayBeExecuted site at number is = IsExecuted site following.Every at number is

-- protected messages need an occurrence of the action
pub record NeedsAction (site : Site) (relay action : ℕ) : Type 0 where
  pub list : ℕ
  pub number : ℕ
  pub needed : IsNeeded site (record { relay = relay; list = list }) number (occurrence.Run action)

-- the action is a forward that is tried without end
pub record MayWait (site : Site) (relay action : ℕ) : Type 0 where
  pub parts : Action
  pub found : slice_get (plan_at site relay).actions action ≡ Some parts
  pub sends : IsForward (Some parts)
  pub endless : parts.retry ≡ None

-- ---- what shares a queue

-- The queue of the list, whose workers execute it, is that of a list with an occurrence that protected messages need.
pub record SharesQueue (site : Site) (relay list : ℕ) : Type 0 where
  pub other : ℕ
  pub number : ℕ
  pub is : Occurrence
  pub needed : IsNeeded site (record { relay = relay; list = other }) number is
  pub same : queue_for (plan_at site relay) list ≡ queue_for (plan_at site relay) other

-- SharedWorker: protected messages don't need the action, it may wait without end, and it may be executed in a list that shares its queue.
pub record IsSharedWorker (site : Site) (relay action : ℕ) : Type 0 where
  pub waits : MayWait site relay action
  pub unneeded : NeedsAction site relay action → ⊥
  pub list : ℕ
  pub number : ℕ
  pub executed : MayBeExecuted site (record { relay = relay; list = list }) number (occurrence.Run action)
  pub shares : SharesQueue site relay list

-- ---- what stands before

-- Bottleneck: the action is spare, and messages of a protected class may execute it in a list before an occurrence there that they need.
pub record IsBottleneck (site : Site) (relay action : ℕ) : Type 0 where
  pub spare : is_spare site (record { relay = relay; action = action }) ≡ true
  pub class : Class
  pub protected : is_protected site class ≡ true
  pub list : ℕ
  pub comes : Comes site class following.Firm (record { relay = relay; list = list })
  pub number : ℕ
  pub does : MayDo site class Scope.Every relay list number (occurrence.Run action)
  pub later : ℕ
  pub behind : number < later
  pub is : Occurrence
  pub needed : MayDo site class Scope.Firm relay list later is
