-- Take, of a message from outside and of a copy on a link, in two parts: a relay's board takes an entry, and a tag is gone from a link.
use Rattle.std.specs.Prelude.{◌≡◌, ℕ, ◌+◌, List, ◌++◌, Some, drop, slice_get, take}
use Rattle.sy_wire.specs.Messages.{Said}
use Rattle.sy_chain.specs.Entries.{Entry}
use Rattle.sy_board.specs.relay.Boards.{IsTooFull, stepped}
use Rattle.sy_board.specs.relay.Cells.{RelayState}
use Rattle.sy_board.specs.relay.Steps.{Event, Out, Step}
use Rattle.sy_site.specs.declared.site.SiteAction.{SiteAction}
use Rattle.sy_site.specs.declared.site.SiteInput.{SiteInput}
use Rattle.sy_site.specs.Sites.{Site, target}
use Rattle.sy_site.specs.machine.States.{Copy, Loss, with_passed, with_relay}
use Rattle.sy_replay.specs.declared.event.Illegal.{Illegal}
use Rattle.sy_replay.specs.declared.event.Illegal.TheVariants as illegal
use Rattle.sy_replay.specs.Parts.{PartState}
use Rattle.sy_replay.specs.internal.Parts.{lost_by}
use Rattle.sy_replay.specs.States.{Contents, boards_of, passed_of, relays_of, with_board}
use Rattle.sy_replay.specs.internal.States.{plan_of}

-- A relay's board makes its step of taking an entry of this message and with this tag; the other relays stay, and so does what devices took.
pub record TakesEntry (old : List PartState) (before : List Loss) (to : SiteInput) (hand : ℕ) (message : Said) (tag : ℕ) (new : List PartState) (after : List Loss)
    : Type 0 where
  pub node : Entry
  pub its_message : node.message ≡ message
  pub its_tag : node.tag ≡ tag
  pub state : RelayState
  pub outs : List Out
  pub step : Step (plan_of (slice_get old to.relay)) (relays_of old to.relay) (Event.Take to.input hand node) state outs
  pub relays : relays_of new ≡ with_relay (relays_of old) to.relay state
  pub boards : boards_of new ≡ with_board (boards_of old) to.relay (stepped (boards_of old to.relay) (Event.Take to.input hand node) state outs)
  pub passed : passed_of new ≡ passed_of old
  pub losses : after ≡ before ++ lost_by to.relay outs

-- Why it doesn't: there is no such step; or there is, and a total would pass its limit. That memory ran out says nothing.
abbrev pub IsNoEntry : Illegal → List PartState → SiteInput → ℕ → Said → ℕ → Type 0
IsNoEntry illegal.NotAStep old to hand message tag =
    (node : Entry) → node.message ≡ message → node.tag ≡ tag → (state : RelayState) (outs : List Out)
    → Step (plan_of (slice_get old to.relay)) (relays_of old to.relay) (Event.Take to.input hand node) state outs → ⊥
IsNoEntry illegal.NoMemory old to hand message tag = Unit {0}
IsNoEntry illegal.TotalsFull old to hand message tag =
    (node : Entry) × (node.message ≡ message) × (node.tag ≡ tag) × (state : RelayState) × (outs : List Out)
    × Step (plan_of (slice_get old to.relay)) (relays_of old to.relay) (Event.Take to.input hand node) state outs
    × IsTooFull (stepped (boards_of old to.relay) (Event.Take to.input hand node) state outs)

-- a link without what stands at a place
abbrev pub without : List ℕ → ℕ → List ℕ
without tags place = take place tags ++ drop (place + 1) tags

-- What stands at a place of a link is gone from there, and nothing else changes.
pub record Leaves (old : List PartState) (link : SiteAction) (place : ℕ) (new : List PartState) : Type 0 where
  pub relays : relays_of new ≡ relays_of old
  pub boards : boards_of new ≡ boards_of old
  pub passed : passed_of new ≡ with_passed (passed_of old) link (without (passed_of old link) place)

-- Of a site that holds this, the copy stands at the place of the link, which leads to the input.
pub record IsOnLink (site : Site) (contents : Contents) (to : SiteInput) (link : SiteAction) (place : ℕ) (copy : Copy) : Type 0 where
  pub tag : ℕ
  pub leads : target site link ≡ Some to
  pub stands : slice_get (passed_of contents.parts link) place ≡ Some tag
  pub is : slice_get contents.copies tag ≡ Some copy

-- No copy stands there, or the link leads elsewhere.
abbrev pub IsOnNoLink : Site → Contents → SiteInput → SiteAction → ℕ → Type 0
IsOnNoLink site contents to link place = (copy : Copy) → IsOnLink site contents to link place copy → ⊥
