-- The state of a replay as lists, and the state of the site that it is.
use Rattle.std.specs.Prelude.{◌≡◌, ℕ, ◌==◌, if◌then◌else◌, List, [], Option, Some, None, slice_get}
use Rattle.sy_board.specs.relay.Boards.{BoardState, IsTooFull, opened, stepped}
use Rattle.sy_board.specs.relay.Cells.{RelayState}
use Rattle.sy_board.specs.relay.Cells as cells
use Rattle.sy_board.specs.relay.Steps as steps
use Rattle.sy_site.specs.declared.site.SiteAction.{SiteAction}
use Rattle.sy_site.specs.Sites.{Site, no_plan}
use Rattle.sy_site.specs.machine.States.{Arrival, Copy, Loss, SiteState}
use Rattle.sy_site.specs.machine.Steps.{Runs, SiteEvent, SiteStep}
use Rattle.sy_replay.specs.declared.event.Illegal.{Illegal}
use Rattle.sy_replay.specs.declared.event.Illegal.TheVariants as illegal
use Rattle.sy_replay.specs.Parts.{PartState, tags_at}

-- what a relay holds; a relay that isn't there holds nothing
abbrev pub state_of : Option PartState → RelayState
state_of None = cells.opening no_plan
state_of (Some part) = part.board.state

abbrev pub passed_in : Option PartState → ℕ → List ℕ
passed_in None action = []
passed_in (Some part) action = tags_at part.passed action

abbrev pub relays_of : List PartState → ℕ → RelayState
relays_of parts = λ r. state_of (slice_get parts r)

abbrev pub passed_of : List PartState → SiteAction → List ℕ
passed_of parts = λ a. passed_in (slice_get parts a.relay) a.action

-- the state of the site
abbrev pub site_state : List PartState → List Copy → List Loss → List Arrival → SiteState
site_state parts copies losses arrivals = record {
  relays = relays_of parts;
  copies = copies;
  passed = passed_of parts;
  losses = losses;
  arrivals = arrivals;
}

-- ---- what a site holds

-- what a site holds, as lists: the relays with what their devices took, the copies, the losses, and what came from outside
pub record Contents : Type 0 where
  pub parts : List PartState
  pub copies : List Copy
  pub losses : List Loss
  pub arrivals : List Arrival

abbrev pub state_in : Contents → SiteState
state_in contents = site_state contents.parts contents.copies contents.losses contents.arrivals

abbrev pub holding : List PartState → List Copy → List Loss → List Arrival → Contents
holding parts copies losses arrivals = record { parts = parts; copies = copies; losses = losses; arrivals = arrivals }

-- ---- boards

-- a relay's board; that of a relay that isn't there has no places
abbrev pub board_of : Option PartState → BoardState
board_of None = opened no_plan None
board_of (Some part) = part.board

abbrev pub boards_of : List PartState → ℕ → BoardState
boards_of parts = λ r. board_of (slice_get parts r)

-- the same but at one relay
abbrev pub with_board : (ℕ → BoardState) → ℕ → BoardState → ℕ → BoardState
with_board boards relay new = λ r. if relay == r then new else boards r

-- ---- steps with what they count

-- the relay that makes the step
abbrev pub relay_of : SiteEvent → ℕ
relay_of (SiteEvent.TakeNew to hand message) = to.relay
relay_of (SiteEvent.TakeFrom to hand link place) = to.relay
relay_of (SiteEvent.Inside relay event) = relay

-- its board after the step, with its totals
abbrev pub stepped_by : (site : Site) (old : SiteState) (event : SiteEvent) (new : SiteState) → SiteStep site old event new → BoardState → BoardState
stepped_by site old (SiteEvent.TakeNew to hand message) new takes board =
    stepped board (steps.Event.Take to.input hand takes.node) takes.step.state takes.step.outs
stepped_by site old (SiteEvent.TakeFrom to hand link place) new from board =
    stepped board (steps.Event.Take to.input hand from.takes.node) from.takes.step.state from.takes.step.outs
stepped_by site old (SiteEvent.Inside relay event) new step board = stepped board event step.1.state step.1.outs

-- The site makes the step, and the relay's board counts it; the other boards stay.
abbrev pub Applies : Site → Contents → SiteEvent → Contents → Type 0
Applies site old event new = (step : SiteStep site (state_in old) event (state_in new))
    × (boards_of new.parts
    ≡ with_board (boards_of old.parts) (relay_of event) (stepped_by site (state_in old) event (state_in new) step (boards_of old.parts (relay_of event))))

-- Why the site doesn't make an event: it is no step from this state; or it is one, and a total of the relay's board would pass its limit. That
-- memory ran out says nothing.
abbrev pub IsIllegalAt : Illegal → Site → Contents → SiteEvent → Type 0
IsIllegalAt illegal.NotAStep site old event = (new : SiteState) → SiteStep site (state_in old) event new → ⊥
IsIllegalAt illegal.NoMemory site old event = Unit {0}
IsIllegalAt illegal.TotalsFull site old event = (new : SiteState) × (step : SiteStep site (state_in old) event new)
    × IsTooFull (stepped_by site (state_in old) event new step (boards_of old.parts (relay_of event)))

-- ---- a replay

-- a site with what it holds
pub record ReplayState : Type 0 where
  pub site : Site
  pub contents : Contents

-- the state of the site
abbrev pub state_at : ReplayState → SiteState
state_at replay = state_in replay.contents

-- Some run of the site ends in this state.
abbrev pub IsReached : Site → SiteState → Type 0
IsReached site state = (events : List SiteEvent) × Runs site events state
