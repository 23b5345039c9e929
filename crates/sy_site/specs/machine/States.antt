-- What a site holds while it runs (this profile's own).
use Rattle.std.specs.Prelude.{ℕ, Bool, false, ◌||◌, ◌==◌, if◌then◌else◌, List, [], ◌∷◌, ◌++◌, length}
use Rattle.sy_wire.specs.Messages.{Said}
use Rattle.sy_board.specs.relay.Cells.{RelayState}
use Rattle.sy_board.specs.relay.Cells as cells
use Rattle.sy_board.specs.relay.Spares as spares
use Rattle.sy_board.specs.relay.Steps.{Cause, Out}
use Rattle.sy_site.specs.Sites.{Site, SiteInput, SiteAction, is_spare, is_spare_list, plan_at, same_action, spares_at}

-- A message that came from outside, and the input that it came by. Its number is its place in the list of them.
pub record Arrival : Type 0 where
  pub message : Said
  pub origin : SiteInput

-- A copy of a message, which a relay took: the message's number, the message, the input that it came by from outside, its trail, the relays that took
-- it, in order, and whether it was flagged when it was taken: then a spare action stood on its way.
pub record Copy : Type 0 where
  pub number : ℕ
  pub message : Said
  pub origin : SiteInput
  pub trail : List ℕ
  pub flag : Bool

-- A copy was lost, or one occurrence of its work: in this relay, where it followed this list, by this step.
pub record Loss : Type 0 where
  pub copy : ℕ
  pub relay : ℕ
  pub list : ℕ
  pub cause : Cause

-- The state of a site. A copy is known by its place in the list of all copies that were ever made, which is the tag of its entries.
pub record SiteState : Type 0 where
  -- what each relay holds
  pub relays : ℕ → RelayState
  pub copies : List Copy
  -- what an action's device took, in order: of an archive its file, of a forward its link, which the next relay takes from
  pub passed : SiteAction → List ℕ
  pub losses : List Loss
  pub arrivals : List Arrival

-- ---- changes

-- the same but at one relay
abbrev pub with_relay : (ℕ → RelayState) → ℕ → RelayState → ℕ → RelayState
with_relay relays relay new = λ r. if relay == r then new else relays r

-- the same but at one action
abbrev pub with_passed : (SiteAction → List ℕ) → SiteAction → List ℕ → SiteAction → List ℕ
with_passed passed action new = λ a. if same_action action a then new else passed a

-- What a relay lets out comes to the ends of its links and files, and to the losses.
abbrev pub push_outs : SiteState → ℕ → List Out → SiteState
push_outs state relay [] = state
push_outs state relay (Out.Passed action e ∷ outs) =
    let by : SiteAction = record { relay = relay; action = action } in
    push_outs (record state { passed = with_passed state.passed by (state.passed by ++ e.tag ∷ []) }) relay outs
push_outs state relay (Out.Lost cause e ∷ outs) =
    push_outs (record state { losses = state.losses ++ record { copy = e.tag; relay = relay; list = e.list; cause = cause } ∷ [] }) relay outs

-- the copy, taken by one more relay
abbrev pub taken_by : ℕ → Copy → Copy
taken_by relay copy = record copy { trail = copy.trail ++ relay ∷ [] }

-- the first copy of a message that comes from outside now
abbrev pub copy_of_new : SiteState → SiteInput → Said → Copy
copy_of_new state origin message = record { number = length state.arrivals; message = message; origin = origin; trail = []; flag = false }

-- ---- flags

-- A copy is flagged at a place of a relay where it was taken flagged, or follows a spare action's own list: a spare post put it there.
abbrev pub is_flagged_at : Site → ℕ → ℕ → Copy → Bool
is_flagged_at site relay list copy = copy.flag || is_spare_list site relay list

-- On a link, or in a file: it was taken flagged, or the action that put it there is spare.
abbrev pub is_flagged_on : Site → SiteAction → Copy → Bool
is_flagged_on site action copy = copy.flag || is_spare site action

-- what was lost in a relay by this step is a spare occurrence
abbrev pub loses_spare : Site → ℕ → Cause → Bool
loses_spare site relay cause = spares.loses_spare (plan_at site relay) (spares_at site relay) cause

-- A loss is of a flagged copy where the copy was flagged at its place, or the occurrence that was lost is spare.
abbrev pub is_flagged_loss : Site → Loss → Copy → Bool
is_flagged_loss site loss copy = is_flagged_at site loss.relay loss.list copy || loses_spare site loss.relay loss.cause

-- a copy that leaves a link is flagged from then on where it was on that link
abbrev pub off_link : Site → SiteAction → Copy → Copy
off_link site link copy = record copy { flag = is_flagged_on site link copy }

-- before the first message
abbrev pub opening : Site → SiteState
opening site = record {
  relays = λ r. cells.opening (plan_at site r);
  copies = [];
  passed = λ a. [];
  losses = [];
  arrivals = [];
}
