-- What is promised of each message of a protected class that an entry took (this profile's own).
use Rattle.std.specs.Prelude.{◌≡◌, ℕ, true, false, List, Some, ◌⊎◌, slice_get}
use Rattle.std.specs.Int.{bit_at}
use Rattle.std.specs.List.{Contains}
use Rattle.sy_wire.specs.declared.class.Class.{Class}
use Rattle.sy_wire.specs.Messages.{Said}
use Rattle.sy_chain.specs.Entries.{Entry}
use Rattle.sy_rules.specs.declared.lists.occurrence.Occurrence.{Occurrence}
use Rattle.sy_rules.specs.declared.lists.occurrence.Occurrence.TheVariants as occurrence
use Rattle.sy_rules.specs.PlanValue.{Plan}
use Rattle.sy_rules.specs.Whole.{AreDifferent, body_at}
use Rattle.sy_rules.specs.lists.Work.{Due}
use Rattle.sy_board.specs.relay.Cells.{Cell, at}
use Rattle.sy_site.specs.Sites.{Site, SiteInput, SiteAction, archives, does_spare, is_protected, plan_at, target}
use Rattle.sy_site.specs.machine.States.{Arrival, Copy, Loss, SiteState, is_flagged_at, is_flagged_loss, is_flagged_on}
use Rattle.sy_site.specs.machine.Reach.{list_of, occurrence_at}

-- ---- where work leads

-- what is left of a message's work at a list: the occurrences that are still due, or all that it executes there
pub data Left : Type 0 where
  StillDue : (due : ℕ) → Left
  All : Left

abbrev pub IsLeft : Plan → ℕ → Said → Left → ℕ → Type 0
IsLeft plan list message (Left.StillDue due) number = bit_at due number ≡ 1
IsLeft plan list message Left.All number = Due (body_at plan list) message number

-- this occurrence is left, and isn't spare
pub record HasLeft (site : Site) (relay list : ℕ) (message : Said) (left : Left) (is : Occurrence) : Type 0 where
  pub number : ℕ
  pub member : IsLeft (plan_at site relay) list message left number
  pub found : occurrence_at site relay list number ≡ Some is
  pub firm : does_spare site relay is ≡ false

-- What is left of a message's work at a relay's list heads for an archive where it runs the archive's action; or a forward, and the message's work at
-- the input that this leads to heads for the archive; or a post, and its work at the posted list does; and none of these is spare. Nothing else
-- heads.
pub data Heads (site : Site) (archive : SiteAction) (message : Said) : (relay list : ℕ) → Left → Type 0 where
  writes : {relay list : ℕ} {left : Left} (action : ℕ) → HasLeft site relay list message left (occurrence.Run action)
      → record { relay = relay; action = action } ≡ archive → Heads site archive message relay list left
  forwards : {relay list : ℕ} {left : Left} (action : ℕ) (to : SiteInput) → HasLeft site relay list message left (occurrence.Run action)
      → target site (record { relay = relay; action = action }) ≡ Some to
      → Heads site archive message to.relay (list_of site to) Left.All → Heads site archive message relay list left
  posts : {relay list : ℕ} {left : Left} (to : ℕ) → HasLeft site relay list message left (occurrence.Post to)
      → Heads site archive message relay to Left.All → Heads site archive message relay list left

-- ---- where a message is

-- the tag is that of a copy of the message of this number
pub record IsCopyOf (copies : List Copy) (number tag : ℕ) : Type 0 where
  pub copy : Copy
  pub is : slice_get copies tag ≡ Some copy
  pub numbered : copy.number ≡ number

-- the archive's file has a copy that isn't flagged
pub record IsWritten (site : Site) (state : SiteState) (archive : SiteAction) (number : ℕ) : Type 0 where
  pub tag : ℕ
  pub there : Contains (state.passed archive) tag
  pub copy : IsCopyOf state.copies number tag
  pub plain : is_flagged_on site archive copy.copy ≡ false

-- a hand, a queue or a worker of a relay has a copy that isn't flagged, which heads for the archive by what is due of it
pub record IsHeld (site : Site) (state : SiteState) (archive : SiteAction) (number : ℕ) : Type 0 where
  pub relay : ℕ
  pub cell : Cell
  pub entry : Entry
  pub there : Contains (at (state.relays relay) cell) entry
  pub copy : IsCopyOf state.copies number entry.tag
  pub plain : is_flagged_at site relay entry.list copy.copy ≡ false
  pub heads : Heads site archive entry.message relay entry.list (Left.StillDue entry.due)

-- a link has a copy that isn't flagged, which heads for the archive by its work at the input that the link leads to
pub record IsOnLink (site : Site) (state : SiteState) (archive : SiteAction) (number : ℕ) : Type 0 where
  pub link : SiteAction
  pub to : SiteInput
  pub leads : target site link ≡ Some to
  pub tag : ℕ
  pub there : Contains (state.passed link) tag
  pub copy : IsCopyOf state.copies number tag
  pub plain : is_flagged_on site link copy.copy ≡ false
  pub heads : Heads site archive copy.copy.message to.relay (list_of site to) Left.All

-- the archive has a copy, or one is held where it heads there
abbrev pub IsWrittenOrHeads : Site → SiteState → SiteAction → ℕ → Type 0
IsWrittenOrHeads site state archive number =
    IsWritten site state archive number ⊎ (IsHeld site state archive number ⊎ IsOnLink site state archive number)

-- Each message of a protected class that came from outside at an entry is written to each archive that is named for its class, or is held where it
-- heads there.
abbrev pub AreWrittenOrHead : Site → SiteState → Type 0
AreWrittenOrHead site state = (number : ℕ) (arrival : Arrival) → slice_get state.arrivals number ≡ Some arrival
    → is_protected site arrival.message.class ≡ true → Contains site.entries arrival.origin
    → (archive : SiteAction) → Contains (archives site arrival.message.class) archive → IsWrittenOrHeads site state archive number

-- ---- safe

-- The message of this number, of this class, is safe.
pub record IsSafe (site : Site) (state : SiteState) (number : ℕ) (class : Class) : Type 0 where
  -- each archive that is named for the class has it, or it is held where it heads there
  pub kept : (archive : SiteAction) → Contains (archives site class) archive → IsWrittenOrHeads site state archive number
  -- no copy of it was lost, nor any occurrence of its work, but at or after a spare action
  pub not_lost : (loss : Loss) → Contains state.losses loss → (copy : IsCopyOf state.copies number loss.copy)
      → is_flagged_loss site loss copy.copy ≡ false → ⊥
  -- no copy of it, at a place, on a link or in a file, came to a relay twice
  pub held_once : (relay : ℕ) (cell : Cell) (entry : Entry) → Contains (at (state.relays relay) cell) entry
      → (copy : IsCopyOf state.copies number entry.tag) → AreDifferent copy.copy.trail
  pub passed_once : (action : SiteAction) (tag : ℕ) → Contains (state.passed action) tag
      → (copy : IsCopyOf state.copies number tag) → AreDifferent copy.copy.trail

-- Each message of a protected class that came from outside at an entry is safe.
abbrev pub AreSafe : Site → SiteState → Type 0
AreSafe site state = (number : ℕ) (arrival : Arrival) → slice_get state.arrivals number ≡ Some arrival
    → is_protected site arrival.message.class ≡ true → Contains site.entries arrival.origin
    → IsSafe site state number arrival.message.class

-- a flagged copy of the message of this number was lost
pub record LosesFlagged (site : Site) (state : SiteState) (number : ℕ) : Type 0 where
  pub loss : Loss
  pub there : Contains state.losses loss
  pub copy : IsCopyOf state.copies number loss.copy
  pub flagged : is_flagged_loss site loss copy.copy ≡ true

-- one that isn't flagged
pub record LosesPlain (site : Site) (state : SiteState) (number : ℕ) : Type 0 where
  pub loss : Loss
  pub there : Contains state.losses loss
  pub copy : IsCopyOf state.copies number loss.copy
  pub plain : is_flagged_loss site loss copy.copy ≡ false
