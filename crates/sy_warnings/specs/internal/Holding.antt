-- What the functions decide that say what holds up protected messages.
use Rattle.std.specs.Prelude.{◌≡◌, ℕ, ◌<◌, true, ◌↔◌, Bool, List, Option, Some, None, length, slice_get}
use Rattle.sy_wire.specs.declared.class.Class.{Class}
use Rattle.sy_rules.specs.declared.lists.occurrence.Occurrence.{Occurrence}
use Rattle.sy_rules.specs.declared.lists.occurrence.Occurrence.TheVariants as occurrence
use Rattle.sy_rules.specs.Whole.{queue_for}
use Rattle.sy_board.specs.relay.Spares.{Scope}
use Rattle.sy_site.specs.Sites.{Site, is_protected, plan_at}
use Rattle.sy_site.specs.machine.Reach.{MayDo}
use Rattle.sy_warnings.specs.declared.following.Following.{Following}
use Rattle.sy_warnings.specs.declared.following.Following.TheVariants as following
use Rattle.sy_warnings.specs.declared.following.SiteList.{SiteList}
use Rattle.sy_warnings.specs.declared.holding.SiteLists.{SiteLists}
use Rattle.sy_warnings.specs.Following.{Comes, IsExecuted, scope_of}
use Rattle.sy_warnings.specs.Holding.{IsNeeded, MayBeExecuted, SharesQueue}
use Rattle.sy_warnings.specs.internal.Following.{AreOfAll}

-- both kinds of lists are those of the site
pub record AreLists (site : Site) (lists : SiteLists) : Type 0 where
  pub firm : AreOfAll site following.Firm lists.firm.items
  pub every : AreOfAll site following.Every lists.every.items

-- messages of the class come to the list, and may execute the occurrence
pub record Executes (site : Site) (class : Class) (by : Following) (at : SiteList) (number : ℕ) (is : Occurrence) : Type 0 where
  pub comes : Comes site class by at
  pub does : MayDo site class (scope_of by) at.relay at.list number is

abbrev pub IsExecutedBy : Site → Class → Following → SiteList → ℕ → Option Occurrence → Type 0
IsExecutedBy site class by at number (Some is) = Executes site class by at number is
IsExecutedBy site class by at number None = (is : Occurrence) → Executes site class by at number is → ⊥

abbrev pub IsExecutedAt : Site → Following → SiteList → ℕ → Option Occurrence → Type 0
IsExecutedAt site by at number (Some is) = IsExecuted site by at number is
IsExecutedAt site by at number None = (is : Occurrence) → IsExecuted site by at number is → ⊥

-- the action may be executed in the list
abbrev pub RunsIn : Site → Following → SiteList → ℕ → Type 0
RunsIn site by at action = (number : ℕ) × IsExecuted site by at number (occurrence.Run action)

-- protected messages need the occurrence of this number, and one of the list
abbrev pub NeedsAt : Site → SiteList → ℕ → Type 0
NeedsAt site at number = (is : Occurrence) × IsNeeded site at number is

abbrev pub HasNeeded : Site → SiteList → Type 0
HasNeeded site at = (number : ℕ) × NeedsAt site at number

-- of each list of a relay
pub record AreNeeded (site : Site) (relay : ℕ) (needed : List Bool) : Type 0 where
  pub many : length needed ≡ length (plan_at site relay).lists
  pub sound : (list : ℕ) → slice_get needed list ≡ Some true → HasNeeded site (record { relay = relay; list = list })
  pub whole : (list : ℕ) → HasNeeded site (record { relay = relay; list = list }) → slice_get needed list ≡ Some true

-- another list with what is needed has the same queue
pub record SharesWith (site : Site) (relay list other : ℕ) : Type 0 where
  pub needs : HasNeeded site (record { relay = relay; list = other })
  pub same : queue_for (plan_at site relay) list ≡ queue_for (plan_at site relay) other

-- the action may be executed in the list, which shares its queue
pub record SharesIn (site : Site) (relay list action : ℕ) : Type 0 where
  pub runs : RunsIn site following.Every (record { relay = relay; list = list }) action
  pub shares : SharesQueue site relay list

-- ---- what stands before

abbrev pub MayRun : Site → Class → SiteList → ℕ → ℕ → Type 0
MayRun site class at number action = MayDo site class Scope.Every at.relay at.list number (occurrence.Run action)

abbrev pub MayNeed : Site → Class → SiteList → ℕ → Type 0
MayNeed site class at number = (is : Occurrence) × MayDo site class Scope.Firm at.relay at.list number is

pub record NeedsLater (site : Site) (class : Class) (at : SiteList) (number later : ℕ) : Type 0 where
  pub behind : number < later
  pub needed : MayNeed site class at later

abbrev pub NeedsBehind : Site → Class → SiteList → ℕ → Type 0
NeedsBehind site class at number = (later : ℕ) × NeedsLater site class at number later

pub record StandsAt (site : Site) (class : Class) (at : SiteList) (action number : ℕ) : Type 0 where
  pub runs : MayRun site class at number action
  pub needs : NeedsBehind site class at number

abbrev pub StandsBefore : Site → Class → SiteList → ℕ → Type 0
StandsBefore site class at action = (number : ℕ) × StandsAt site class at action number

pub record StandsIn (site : Site) (class : Class) (at : SiteList) (action : ℕ) : Type 0 where
  pub comes : Comes site class following.Firm at
  pub before : StandsBefore site class at action

pub record StandsForSome (site : Site) (at : SiteList) (action : ℕ) : Type 0 where
  pub class : Class
  pub protected : is_protected site class ≡ true
  pub stands : StandsIn site class at action
