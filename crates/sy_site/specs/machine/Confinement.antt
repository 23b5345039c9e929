-- Where the copies of a class are that came in at entries (this profile's own).
use Rattle.std.specs.Prelude.{◌≡◌, ℕ, ◌+◌, ◌*◌, ◌<◌, ◌⊎◌, false, List, Some, AllPairs, slice_get}
use Rattle.std.specs.Int.{bit_at}
use Rattle.std.specs.List.{Contains}
use Rattle.sy_wire.specs.declared.class.Class.{Class}
use Rattle.sy_chain.specs.Entries.{Entry}
use Rattle.sy_rules.specs.declared.lists.occurrence.Occurrence.TheVariants as occurrence
use Rattle.sy_rules.specs.PlanValue.{Plan}
use Rattle.sy_rules.specs.Whole.{body_at, queue_for}
use Rattle.sy_rules.specs.lists.Work.{May}
use Rattle.sy_board.specs.relay.Cells.{Cell, at}
use Rattle.sy_board.specs.relay.Kinds.{MayLose}
use Rattle.sy_board.specs.relay.Plans.{input_at, post_flow, queue_of_input, queue_of_worker}
use Rattle.sy_board.specs.relay.Spares.{Scope}
use Rattle.sy_site.specs.Sites.{Site, SiteAction, SiteInput, plan_at, target}
use Rattle.sy_site.specs.machine.States.{Copy, Loss, SiteState, is_flagged_at, is_flagged_loss, is_flagged_on}
use Rattle.sy_site.specs.machine.Findings.{IsForward}
use Rattle.sy_site.specs.machine.Reach.{Follows, MayDo, Reach}

-- a copy, known by its tag, of a message of the class that came from outside at an entry
pub record IsFollowed (site : Site) (state : SiteState) (class : Class) (tag : ℕ) (copy : Copy) : Type 0 where
  pub is : slice_get state.copies tag ≡ Some copy
  pub class_is : copy.message.class ≡ class
  pub entered : Contains site.entries copy.origin

-- An entry of a relay stands for an input that the class reaches: it follows a list that the class may follow from there, and what is due of it the
-- class may execute.
pub record IsWithinReach (site : Site) (class : Class) (scope : Scope) (relay : ℕ) (entry : Entry) : Type 0 where
  pub reached : Reach site class scope (record { relay = relay; input = entry.input })
  pub follows : Follows site class scope (record { relay = relay; input = entry.input }) entry.list
  pub due : (number : ℕ) → bit_at entry.due number ≡ 1 → May (body_at (plan_at site relay) entry.list) class number

-- The place is one for entries of the input: a hand of it, its queue, or a worker that takes from its queue.
abbrev pub IsPlaceOf : Plan → Cell → ℕ → Type 0
IsPlaceOf plan (Cell.Hand place) input = (number : ℕ) × (number < 64) × (place ≡ 64 * input + number)
IsPlaceOf plan (Cell.Queue queue) input = queue_of_input plan input ≡ queue
IsPlaceOf plan (Cell.Worker worker) input = queue_of_input plan input ≡ queue_of_worker plan worker

-- The entry is where its input put it: at a place of that input, and it follows the input's own list.
pub record IsOfItsInput (plan : Plan) (cell : Cell) (entry : Entry) : Type 0 where
  pub place : IsPlaceOf plan cell entry.input
  pub list : entry.list ≡ (input_at plan entry.input).list

-- The place is one for entries that a post puts into a list's queue: that queue, or a worker that takes from it.
abbrev pub IsPlaceOfList : Plan → Cell → ℕ → Type 0
IsPlaceOfList plan (Cell.Hand place) list = ⊥
IsPlaceOfList plan (Cell.Queue queue) list = queue_for plan list ≡ queue
IsPlaceOfList plan (Cell.Worker worker) list = queue_for plan list ≡ queue_of_worker plan worker

-- The entry is where a post put it: at a place of the list that it follows. The class may execute that post in a list that it may follow from the
-- entry's input on; the post isn't spare, and its queue, in which posts wait, can't lose it.
pub record IsOfAPost (site : Site) (class : Class) (relay : ℕ) (cell : Cell) (entry : Entry) : Type 0 where
  pub place : IsPlaceOfList (plan_at site relay) cell entry.list
  pub before : ℕ
  pub follows : Follows site class Scope.Firm (record { relay = relay; input = entry.input }) before
  pub number : ℕ
  pub does : MayDo site class Scope.Firm relay before number (occurrence.Post entry.list)
  pub keeps : MayLose (plan_at site relay) class (queue_for (plan_at site relay) entry.list)
      (post_flow (plan_at site relay) (queue_for (plan_at site relay) entry.list)) → ⊥

-- the link leads to an input, and the class reaches it without spare occurrences
pub record IsLinkWithin (site : Site) (class : Class) (link : SiteAction) : Type 0 where
  pub to : SiteInput
  pub leads : target site link ≡ Some to
  pub reached : Reach site class Scope.Firm to

-- the input that the action leads to, if any, is reached
abbrev pub LeadsWithin : Site → Class → SiteAction → Type 0
LeadsWithin site class action = (to : SiteInput) → target site action ≡ Some to → Reach site class Scope.Every to

-- Along a trail the ranks fall.
abbrev pub Falls : (ℕ → ℕ) → List ℕ → Type 0
Falls rank trail = AllPairs (λ earlier later. rank later < rank earlier) trail

-- The copies of the class that came in at entries are confined, but for flagged ones: they are held within its reach without spare occurrences alone,
-- each where its input put it, or a post into a queue that can't lose it; are on no link but of a forward that leads to a reached input; and none is
-- lost.
pub record AreConfined (site : Site) (class : Class) (state : SiteState) : Type 0 where
  pub held : (relay : ℕ) (cell : Cell) (entry : Entry) → Contains (at (state.relays relay) cell) entry
      → (copy : Copy) → IsFollowed site state class entry.tag copy → is_flagged_at site relay entry.list copy ≡ false
      → IsWithinReach site class Scope.Firm relay entry
  pub placed : (relay : ℕ) (cell : Cell) (entry : Entry) → Contains (at (state.relays relay) cell) entry
      → (copy : Copy) → IsFollowed site state class entry.tag copy → is_flagged_at site relay entry.list copy ≡ false
      → IsOfItsInput (plan_at site relay) cell entry ⊎ IsOfAPost site class relay cell entry
  pub on_links : (link : SiteAction) (tag : ℕ) → Contains (state.passed link) tag
      → (copy : Copy) → IsFollowed site state class tag copy → is_flagged_on site link copy ≡ false
      → IsForward (slice_get (plan_at site link.relay).actions link.action) → IsLinkWithin site class link
  pub not_lost : (loss : Loss) → Contains state.losses loss
      → (copy : Copy) → IsFollowed site state class loss.copy copy → is_flagged_loss site loss copy ≡ false → ⊥

-- The ranks fall along the trail of each of these copies, flagged ones too, at a place, on a link or in a file; and each is within the class's reach
-- with spare occurrences.
pub record RanksFall (site : Site) (class : Class) (rank : ℕ → ℕ) (state : SiteState) : Type 0 where
  pub held : (relay : ℕ) (cell : Cell) (entry : Entry) → Contains (at (state.relays relay) cell) entry
      → (copy : Copy) → IsFollowed site state class entry.tag copy
      → Falls rank copy.trail × IsWithinReach site class Scope.Every relay entry
  pub passed : (action : SiteAction) (tag : ℕ) → Contains (state.passed action) tag
      → (copy : Copy) → IsFollowed site state class tag copy → Falls rank copy.trail × LeadsWithin site class action
