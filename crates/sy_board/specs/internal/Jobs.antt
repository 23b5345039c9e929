-- A worker's job as its entries show it, and what keeps a message in its hand.
use Rattle.std.specs.Prelude.{◌≡◌, ℕ, Bool, true, false, List, [], ◌∷◌, Some, slice_get}
use Rattle.sy_wire.specs.Messages.{Said}
use Rattle.sy_chain.specs.Entries.{Entry}
use Rattle.sy_marks.specs.declared.marks.Flow.{Flow}
use Rattle.sy_marks.specs.declared.marks.Flow.TheVariants as flow
use Rattle.sy_marks.specs.declared.marks.Hold.{Hold}
use Rattle.sy_marks.specs.declared.marks.Hold.TheVariants as hold
use Rattle.sy_rules.specs.declared.lists.occurrence.Occurrence.{Occurrence}
use Rattle.sy_rules.specs.declared.lists.occurrence.Occurrence.TheVariants as occurrence
use Rattle.sy_rules.specs.lists.Sets.{IsLowest}
use Rattle.sy_rules.specs.PlanValue.{Plan}
use Rattle.sy_board.specs.declared.fault.BoardFault.{BoardFault}
use Rattle.sy_board.specs.declared.fault.BoardFault.TheVariants as fault
use Rattle.sy_board.specs.declared.relay.answers.PostCause.{PostCause}
use Rattle.sy_board.specs.declared.relay.answers.PostCause.TheVariants as cause
use Rattle.sy_board.specs.relay.Plans.{occurrences_at}
use Rattle.sy_board.specs.relay.Steps.{still}

-- the occurrence is the lowest due of the first entry, and this is left without it
pub record IsNext (plan : Plan) (entries : List Entry) (is : Occurrence) (left : ℕ) : Type 0 where
  pub entry : Entry
  pub others : List Entry
  pub held : entries ≡ entry ∷ others
  pub number : ℕ
  pub first : IsLowest entry.due number left
  pub found : slice_get (occurrences_at plan entry.list) number ≡ Some is

-- a device's answer about a message is of the run that is next, and this is left without it
pub record IsNextOf (plan : Plan) (entries : List Entry) (device : ℕ) (message : Said) (left : ℕ) : Type 0 where
  pub next : IsNext plan entries (occurrence.Run device) left
  pub its : next.entry.message ≡ message

abbrev pub HasNextRun : Plan → List Entry → Type 0
HasNextRun plan entries = (action : ℕ) × (left : ℕ) × IsNext plan entries (occurrence.Run action) left

-- why a device's answer isn't of the run that is next: there is none; or there is, and it is another
abbrev pub RunFails : BoardFault → Plan → List Entry → ℕ → Said → Type 0
RunFails fault.NoJob plan entries device message = HasNextRun plan entries → ⊥
RunFails fault.WrongReceipt plan entries device message =
    HasNextRun plan entries × ((left : ℕ) → IsNextOf plan entries device message left → ⊥)
RunFails _ plan entries device message = ⊥

-- the first of the entries is of this message
abbrev pub IsFirstOf : List Entry → Said → Type 0
IsFirstOf [] message = ⊥
IsFirstOf (e ∷ others) message = e.message ≡ message

abbrev pub HasNext : Plan → List Entry → Type 0
HasNext plan entries = (is : Occurrence) × (left : ℕ) × IsNext plan entries is left

-- the entries where this is left due of the first
abbrev pub advanced_entries : List Entry → ℕ → List Entry
advanced_entries [] left = []
advanced_entries (e ∷ others) left = still e left others

-- a message stays in its hand, or its post is still to be done
abbrev pub is_holding : Hold → Bool
is_holding hold.FullDelay = true
is_holding hold.Full = true
is_holding hold.LightDelay = false
is_holding hold.Clear = false

-- and may be lost for that
abbrev pub is_expiring : Hold → Bool
is_expiring hold.FullDelay = false
is_expiring hold.Full = true
is_expiring hold.LightDelay = false
is_expiring hold.Clear = false

-- whether a post with this flow may be lost for a cause, where this holds it
abbrev pub may_lose : PostCause → Flow → Hold → Bool
may_lose cause.Full f hold = is_expiring hold
may_lose cause.NoMemory flow.Full hold = false
may_lose cause.NoMemory flow.Light hold = true
may_lose cause.NoMemory flow.NoWait hold = true
