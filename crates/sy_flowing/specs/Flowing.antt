-- What waits for what in a site, over all classes at once, and where messages of a class go on. In a site that flows neither makes a circle (this
-- profile's own).
use Rattle.std.specs.Prelude.{◌≡◌, ℕ, ◌<◌, ◌≤◌, Some}
use Rattle.sy_wire.specs.declared.class.Class.{Class}
use Rattle.sy_marks.specs.declared.marks.Flow.TheVariants as flow
use Rattle.sy_rules.specs.declared.lists.occurrence.Occurrence.TheVariants as occurrence
use Rattle.sy_rules.specs.PlanValue.{Plan}
use Rattle.sy_rules.specs.Whole.{queue_for}
use Rattle.sy_board.specs.relay.Plans.{parameters_at, post_flow, queue_of_input}
use Rattle.sy_board.specs.relay.Spares.{Scope}
use Rattle.sy_site.specs.declared.site.SiteInput.{SiteInput}
use Rattle.sy_site.specs.Sites.{Site, plan_at, target}
use Rattle.sy_site.specs.machine.Reach.{Follows, MayDo, list_of}
use Rattle.sy_site.specs.machine.Lawful.{IsInput}

-- A list that messages of the class may follow, from some input of its relay on. Any class may come in at any input, and what is spare counts.
abbrev pub MayFollow : Site → Class → (relay list : ℕ) → Type 0
MayFollow site class relay list =
    (input : ℕ) × IsInput site (record { relay = relay; input = input })
    × Follows site class Scope.Every (record { relay = relay; input = input }) list

-- ---- waits

-- a queue of a relay, both by number
pub record SiteQueue : Type 0 where
  pub relay : ℕ
  pub queue : ℕ

-- the queue that a list's entries wait in
abbrev pub list_queue : Site → ℕ → ℕ → SiteQueue
list_queue site relay list = record { relay = relay; queue = queue_for (plan_at site relay) list }

-- the queue that an input's messages are put into
abbrev pub input_queue : Site → SiteInput → SiteQueue
input_queue site input = record { relay = input.relay; queue = queue_of_input (plan_at site input.relay) input.input }

-- Posts into the queue wait there at its mark: it has queue.workerFlow="full", and a full-delay mark. Others never wait, since they are lost where it
-- is full.
pub record HoldsPosts (plan : Plan) (queue : ℕ) : Type 0 where
  pub waits : post_flow plan queue ≡ flow.Full
  pub mark : 1 ≤ (parameters_at plan queue).full_delay_mark

-- A queue's workers may have to wait for another queue: of an entry that waits in the one they may execute a post into the other, which is held at its
-- mark, or a forward to an input that puts into the other, whose link is full.
pub data WaitsFor (site : Site) : (from to : SiteQueue) → Type 0 where
  posts : (class : Class) (relay list number to : ℕ) → MayFollow site class relay list
      → MayDo site class Scope.Every relay list number (occurrence.Post to) → HoldsPosts (plan_at site relay) (queue_for (plan_at site relay) to)
      → WaitsFor site (list_queue site relay list) (list_queue site relay to)
  forwards : (class : Class) (relay list number action : ℕ) (to : SiteInput) → MayFollow site class relay list
      → MayDo site class Scope.Every relay list number (occurrence.Run action)
      → target site (record { relay = relay; action = action }) ≡ Some to
      → WaitsFor site (list_queue site relay list) (input_queue site to)

-- one wait after another, at least one
pub data WaitsOn (site : Site) : (from to : SiteQueue) → Type 0 where
  once : {from to : SiteQueue} → WaitsFor site from to → WaitsOn site from to
  more : {from mid to : SiteQueue} → WaitsFor site from mid → WaitsOn site mid to → WaitsOn site from to

-- a circle of waits, over whatever classes
pub record IsJam (site : Site) (queue : SiteQueue) : Type 0 where
  pub circle : WaitsOn site queue queue

-- a number for each queue, which falls along every wait
abbrev pub AreHeights : Site → (SiteQueue → ℕ) → Type 0
AreHeights site height = (from to : SiteQueue) → WaitsFor site from to → height to < height from

-- ---- rounds

-- a list of a relay, both by number
pub record SiteList : Type 0 where
  pub relay : ℕ
  pub list : ℕ

-- the list that an input's messages follow
abbrev pub input_list : Site → SiteInput → SiteList
input_list site input = record { relay = input.relay; list = list_of site input }

-- Messages of the class go from list to list: by a post, whether it waits or not, or by a forward.
pub data GoesTo (site : Site) (class : Class) : (from to : SiteList) → Type 0 where
  by_post : (relay list number to : ℕ) → MayFollow site class relay list → MayDo site class Scope.Every relay list number (occurrence.Post to)
      → GoesTo site class (record { relay = relay; list = list }) (record { relay = relay; list = to })
  by_forward : (relay list number action : ℕ) (to : SiteInput) → MayFollow site class relay list
      → MayDo site class Scope.Every relay list number (occurrence.Run action)
      → target site (record { relay = relay; action = action }) ≡ Some to
      → GoesTo site class (record { relay = relay; list = list }) (input_list site to)

-- one after another, at least once
pub data GoesOn (site : Site) (class : Class) : (from to : SiteList) → Type 0 where
  goes_once : {from to : SiteList} → GoesTo site class from to → GoesOn site class from to
  goes_more : {from mid to : SiteList} → GoesTo site class from mid → GoesOn site class mid to → GoesOn site class from to

-- a circle that one message of the class may go round without end
pub record IsRound (site : Site) (class : Class) (list : SiteList) : Type 0 where
  pub circle : GoesOn site class list list

-- for each class a number for each list, which falls wherever messages of the class go on: how far they still may go
abbrev pub AreListsLeft : Site → (Class → SiteList → ℕ) → Type 0
AreListsLeft site left = (class : Class) (from to : SiteList) → GoesTo site class from to → left class to < left class from

-- ---- sites that flow

-- A site flows where there are such numbers: no wait is on a circle of waits, and no message goes round and round.
pub record IsFlowing (site : Site) : Type 0 where
  pub height : SiteQueue → ℕ
  pub falls : AreHeights site height
  pub left : Class → SiteList → ℕ
  pub ends : AreListsLeft site left
