-- The steps that need nothing from outside, and what they lead to in a site that flows (this profile's own).
use Rattle.std.specs.Prelude.{◌≡◌, ℕ, ◌≤◌, ◌⊎◌, true, false, List, [], ◌∷◌, Some, length, slice_get}
use Rattle.std.specs.List.{Contains}
use Rattle.sy_board.specs.relay.Cells.{Cell, at}
use Rattle.sy_board.specs.relay.Steps.{Event}
use Rattle.sy_site.specs.declared.site.SiteAction.{SiteAction}
use Rattle.sy_site.specs.declared.site.SiteInput.{SiteInput}
use Rattle.sy_site.specs.Sites.{Site, archives, is_protected, target}
use Rattle.sy_site.specs.machine.States.{Arrival, SiteState}
use Rattle.sy_site.specs.machine.Steps.{SiteEvent, SiteStep}
use Rattle.sy_site.specs.machine.Safety.{IsWritten}

-- The steps by which a relay goes on with what it holds: no failure, nothing given up or expired, and no post lost but where its queue is full and
-- doesn't hold it, so that nothing else can be done with it.
abbrev pub IsOwnEvent : Event → Type 0
IsOwnEvent (Event.Enter input hand) = Unit {0}
IsOwnEvent (Event.Grab worker) = Unit {0}
IsOwnEvent (Event.Done worker) = Unit {0}
IsOwnEvent (Event.Post worker) = Unit {0}
IsOwnEvent (Event.PostLost worker no_memory) = no_memory ≡ false
IsOwnEvent _ = ⊥

-- the steps of a site that need nothing from outside: those, and a take off a link
abbrev pub IsOwn : SiteEvent → Type 0
IsOwn (SiteEvent.TakeNew input hand message) = ⊥
IsOwn (SiteEvent.TakeFrom input hand link place) = Unit {0}
IsOwn (SiteEvent.Inside relay event) = IsOwnEvent event

-- Each link that leads to a relay has at most so many copies, or no more than it had.
abbrev pub IsWithinBound : Site → ℕ → SiteState → SiteState → Type 0
IsWithinBound site bound old new = (link : SiteAction) (to : SiteInput) → target site link ≡ Some to
    → (length (new.passed link) ≤ bound) ⊎ (length (new.passed link) ≤ length (old.passed link))

-- An own step of a site whose links have a bound: a forward is done only where its link has room.
pub record OwnStep (site : Site) (bound : ℕ) (old : SiteState) (event : SiteEvent) (new : SiteState) : Type 0 where
  pub own : IsOwn event
  pub step : SiteStep site old event new
  pub within : IsWithinBound site bound old new

-- one after the other
abbrev pub OwnSteps : Site → ℕ → SiteState → List SiteEvent → SiteState → Type 0
OwnSteps site bound old [] new = new ≡ old
OwnSteps site bound old (event ∷ events) new =
    (between : SiteState) × OwnStep site bound old event between × OwnSteps site bound between events new

-- No own step is possible.
abbrev pub IsAtRest : Site → ℕ → SiteState → Type 0
IsAtRest site bound state = (event : SiteEvent) (new : SiteState) → OwnStep site bound state event new → ⊥

-- ---- what they lead to

-- No relay holds anything, and no link that leads to a relay has a copy.
pub record HoldsNothing (site : Site) (state : SiteState) : Type 0 where
  pub held : (relay : ℕ) (cell : Cell) → at (state.relays relay) cell ≡ []
  pub passed : (link : SiteAction) (to : SiteInput) → target site link ≡ Some to → state.passed link ≡ []

-- Each message of a protected class that came from outside at an entry is written to each archive that is named for its class.
abbrev pub AreWritten : Site → SiteState → Type 0
AreWritten site state = (number : ℕ) (arrival : Arrival) → slice_get state.arrivals number ≡ Some arrival
    → is_protected site arrival.message.class ≡ true → Contains site.entries arrival.origin
    → (archive : SiteAction) → Contains (archives site arrival.message.class) archive → IsWritten site state archive number

-- Own steps lead from the state to one in which nothing is held, and no message more has come.
pub record CanEmpty (site : Site) (bound : ℕ) (state : SiteState) : Type 0 where
  pub events : List SiteEvent
  pub end : SiteState
  pub steps : OwnSteps site bound state events end
  pub arrivals : end.arrivals ≡ state.arrivals
  pub empty : HoldsNothing site end

-- Own steps lead to one in which all is written that must be.
pub record CanFinish (site : Site) (bound : ℕ) (state : SiteState) : Type 0 where
  pub events : List SiteEvent
  pub end : SiteState
  pub steps : OwnSteps site bound state events end
  pub arrivals : end.arrivals ≡ state.arrivals
  pub written : AreWritten site end
