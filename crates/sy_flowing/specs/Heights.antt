-- Numbers by rows, and when they show that a site flows: a test of each list by itself (this profile's own).
use Rattle.std.specs.Prelude.{◌≡◌, ℕ, ◌<◌, ◌⊎◌, ◌==◌, ◌&&◌, if◌then◌else◌, true, is_some, List, [], ◌∷◌, Some, length}
use Rattle.sy_wire.specs.declared.class.Class.{Class}
use Rattle.sy_rules.specs.declared.lists.occurrence.Occurrence.{Occurrence}
use Rattle.sy_rules.specs.declared.lists.occurrence.Occurrence.TheVariants as occurrence
use Rattle.sy_rules.specs.PlanValue.{Plan}
use Rattle.sy_rules.specs.Whole.{queue_at, queue_for}
use Rattle.sy_board.specs.relay.Plans.{input_at}
use Rattle.sy_board.specs.relay.Spares.{Scope}
use Rattle.sy_site.specs.declared.site.SiteInput.{SiteInput}
use Rattle.sy_site.specs.Sites.{Site, plan_at, target}
use Rattle.sy_site.specs.machine.Reach.{MayDo}
use Rattle.sy_flowing.specs.Flowing.{HoldsPosts, SiteList, SiteQueue, input_list, input_queue, list_queue}

-- The list has a queue of its own, into which posts may put, or is that of an input: entries may follow it. All others are parts of these alone.
abbrev pub IsUsed : Plan → ℕ → Type 0
IsUsed plan list =
    (is_some (queue_at plan list) ≡ true) ⊎ ((input : ℕ) × (input < length plan.inputs) × (list ≡ (input_at plan input).list))

-- By an occurrence of a list the numbers fall: at a post to its list's queue, if posts wait there, and to its list; at a forward to the queue and to
-- the list of the input that it leads to.
abbrev pub FallsBy : Site → (SiteQueue → ℕ) → (SiteList → ℕ) → (relay list : ℕ) → Occurrence → Type 0
FallsBy site height left relay list (occurrence.Run action) = (to : SiteInput) → target site (record { relay = relay; action = action }) ≡ Some to
    → (height (input_queue site to) < height (list_queue site relay list)) × (left (input_list site to) < left (record { relay = relay; list = list }))
FallsBy site height left relay list (occurrence.Post to) =
    (HoldsPosts (plan_at site relay) (queue_for (plan_at site relay) to) → height (list_queue site relay to) < height (list_queue site relay list))
    × (left (record { relay = relay; list = to }) < left (record { relay = relay; list = list }))

-- The numbers are fit: they fall by each occurrence that messages of any class may execute of any list that is used. That is a test of each list by
-- itself, for each class.
abbrev pub AreFitNumbers : Site → (SiteQueue → ℕ) → (Class → SiteList → ℕ) → Type 0
AreFitNumbers site height left = (class : Class) (relay list number : ℕ) (is : Occurrence) → relay < length site.relays
    → list < length (plan_at site relay).lists → IsUsed (plan_at site relay) list → MayDo site class Scope.Every relay list number is
    → FallsBy site height (left class) relay list is

-- ---- rows

-- a row `height RELAY QUEUE N`
pub record HeightRow : Type 0 where
  pub at : SiteQueue
  pub number : ℕ

-- the number that rows give a queue: that of the first row for it, and 0 without one
abbrev pub height_by : List HeightRow → SiteQueue → ℕ
height_by [] queue = 0
height_by (row ∷ rows) queue = if row.at.relay == queue.relay && row.at.queue == queue.queue then row.number else height_by rows queue

-- a row `left RELAY LIST N`, of a class
pub record LeftRow : Type 0 where
  pub class : Class
  pub at : SiteList
  pub number : ℕ

abbrev pub left_by : List LeftRow → Class → SiteList → ℕ
left_by [] class list = 0
left_by (row ∷ rows) class list =
    if (row.class.facility == class.facility && row.class.severity == class.severity) && (row.at.relay == list.relay && row.at.list == list.list)
    then row.number else left_by rows class list
