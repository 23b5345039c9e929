-- What tags and numbers mean in the state of a site (this profile's own).
use Rattle.std.specs.Prelude.{◌≡◌, ℕ, List, Some, slice_get}
use Rattle.std.specs.List.{Contains}
use Rattle.sy_chain.specs.Entries.{Entry}
use Rattle.sy_board.specs.relay.Cells.{Cell, IsShaped, at}
use Rattle.sy_site.specs.Sites.{Site, SiteAction, plan_at}
use Rattle.sy_site.specs.machine.States.{Copy, Loss, SiteState}

-- A number names its message: each copy is of the message that came under its number, by the same input.
abbrev pub NumbersName : SiteState → Type 0
NumbersName state = (tag : ℕ) (copy : Copy) → slice_get state.copies tag ≡ Some copy
    → slice_get state.arrivals copy.number ≡ Some (record { message = copy.message; origin = copy.origin })

-- the tag is that of a copy
abbrev pub IsTag : List Copy → ℕ → Type 0
IsTag copies tag = (copy : Copy) × (slice_get copies tag ≡ Some copy)

-- Each tag names a copy, and an entry has its copy's message.
pub record TagsName (state : SiteState) : Type 0 where
  pub held : (relay : ℕ) (cell : Cell) (entry : Entry) → Contains (at (state.relays relay) cell) entry
      → (copy : Copy) × (slice_get state.copies entry.tag ≡ Some copy) × (entry.message ≡ copy.message)
  pub passed : (action : SiteAction) (tag : ℕ) → Contains (state.passed action) tag → IsTag state.copies tag
  pub losses : (loss : Loss) → Contains state.losses loss → IsTag state.copies loss.copy

-- Each relay has the places of its plan.
abbrev pub AreShaped : Site → SiteState → Type 0
AreShaped site state = (relay : ℕ) → IsShaped (plan_at site relay) (state.relays relay)
