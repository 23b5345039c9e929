-- What a board keeps, and what its methods answer. A definition by cases has one case for each answer; `⊥` stands where that answer never
-- comes. Each answer that is a step cites its record, and the board is then the one `stepped` to; at every other answer it is as it was.
use Rattle.std.specs.Prelude.{◌≡◌, ◌≢◌, ℕ, ◌+◌, ◌<◌, ◌≤◌, ◌^◌, ◌⊎◌, Bool, true, false, List, [], ◌∷◌, Option, Some, None, All, map, min, unwrap_or, length}
use Rattle.std.specs.Arc.{arc_value}
use Rattle.sy_wire.specs.Messages.{Said}
use Rattle.sy_chain.specs.Entries.{Entry}
use Rattle.sy_actions.specs.Devices.{Delivered, DeliveredAll, Refused}
use Rattle.sy_actions.specs.declared.device.DeviceFault.TheVariants as device_fault
use Rattle.sy_rules.specs.declared.lists.occurrence.Occurrence.{Occurrence}
use Rattle.sy_rules.specs.declared.lists.occurrence.Occurrence.TheVariants as occurrence
use Rattle.sy_rules.specs.Whole.{queue_for}
use Rattle.sy_rules.specs.PlanValue.{Plan}
use Rattle.sy_marks.specs.declared.marks.Hold.{Hold}
use Rattle.sy_marks.specs.declared.marks.Hold.TheVariants as hold
use Rattle.sy_marks.specs.Marks.{discards, is_delayed}
use Rattle.sy_board.specs.declared.fault.BoardFault.{BoardFault}
use Rattle.sy_board.specs.declared.fault.BoardFault.TheVariants as fault
use Rattle.sy_board.specs.declared.relay.accounts.ActionCounts.{ActionCounts}
use Rattle.sy_board.specs.declared.relay.answers.Taken.{Taken}
use Rattle.sy_board.specs.declared.relay.answers.Taken.TheVariants as taken
use Rattle.sy_board.specs.declared.relay.answers.Entry.{Entry as EnterAnswer}
use Rattle.sy_board.specs.declared.relay.answers.Entry.TheVariants as entry
use Rattle.sy_board.specs.declared.relay.answers.Job.{Job as JobAnswer}
use Rattle.sy_board.specs.declared.relay.answers.Job.TheVariants as job
use Rattle.sy_board.specs.declared.relay.answers.Retry.{Retry}
use Rattle.sy_board.specs.declared.relay.answers.Retry.TheVariants as retry
use Rattle.sy_board.specs.declared.relay.answers.Posted.{Posted}
use Rattle.sy_board.specs.declared.relay.answers.Posted.TheVariants as posted
use Rattle.sy_board.specs.declared.relay.answers.PostCause.{PostCause}
use Rattle.sy_board.specs.declared.relay.answers.PostCause.TheVariants as cause
use Rattle.sy_board.specs.relay.Cells.{Cell, RelayState, at, hand, opening, waiting}
use Rattle.sy_board.specs.relay.Plans.{flow_at, marks_at, parameters_at, queue_of_input, queue_of_worker}
use Rattle.sy_board.specs.relay.Runs.{AreRuns}
use Rattle.sy_board.specs.relay.Steps.{Cause, Enters, Event, Expires, Fails, GivesUp, Grabs, IsPosted, Job, LosesPost, MayBeLost, Out, Posts, Settles, Step, Takes, if_so, is_post_held}
use Rattle.sy_board.specs.relay.Totals.{Counts, GuardState, Totals, counted, in_hands, in_queues, no_guard, nothing_counted}

-- The board of a relay: its plan, its guard where it has one, what the relay holds, and what its steps counted.
pub record BoardState : Type 0 where
  pub plan : Plan
  pub guard : Option GuardState
  pub state : RelayState
  pub totals : Totals

-- what is guarded: nothing, where there is no guard
abbrev pub guard_of : BoardState → GuardState
guard_of board = unwrap_or board.guard no_guard

-- a board before the first message
abbrev pub opened : Plan → Option GuardState → BoardState
opened plan guard = record { plan = plan; guard = guard; state = opening plan; totals = nothing_counted plan }

-- How many runs of an action became due isn't stored: each of them is done, given up, or still to be done.
abbrev pub counts_of : ActionCounts → Counts
counts_of c = record { due = c.done + c.given_up + c.left; done = c.done; given_up = c.given_up }

-- what the accounts of a board say
pub record Account : Type 0 where
  pub totals : Totals
  pub held_in_hands : ℕ
  pub held_in_queues : ℕ

abbrev pub account_of : BoardState → Account
account_of board = record { totals = board.totals; held_in_hands = in_hands board.state; held_in_queues = in_queues board.state }

abbrev pub Is64 : ℕ → Type 0
Is64 number = number < 2 ^ 64

-- Each number of an account is one of 64 bits. How many became due isn't asked: that is the sum of three others.
pub record Fits (account : Account) : Type 0 where
  pub taken : Is64 account.totals.taken
  pub lost_in : Is64 account.totals.lost_in
  pub posted : Is64 account.totals.posted
  pub lost_post : Is64 account.totals.lost_post
  pub grabbed : Is64 account.totals.grabbed
  pub lost_out : Is64 account.totals.lost_out
  pub guarded_lost : Is64 account.totals.guarded_lost
  pub hands : Is64 account.held_in_hands
  pub queues : Is64 account.held_in_queues
  pub actions : All (λ c. Is64 c.done × Is64 c.given_up) account.totals.actions

-- the board after a step that leads to this state and lets these out
abbrev pub stepped : BoardState → Event → RelayState → List Out → BoardState
stepped old event state outs = record {
  plan = old.plan;
  guard = old.guard;
  state = state;
  totals = counted old.plan (guard_of old) old.state event state outs old.totals;
}

-- the board after a step couldn't tell what it has counted
abbrev pub IsTooFull : BoardState → Type 0
IsTooFull board = Fits (account_of board) → ⊥

-- ---- take

abbrev pub TakeIs : Taken → BoardState → ℕ → ℕ → Entry → BoardState → Type 0
TakeIs taken.InHand old input number node new =
    Takes old.plan old.state input number node false new.state × (new ≡ stepped old (Event.Take input number node) new.state [])
TakeIs (taken.Discarded lost) old input number node new =
    (lost ≡ node) × Takes old.plan old.state input number node true new.state
    × (new ≡ stepped old (Event.Take input number node) new.state (Out.Lost Cause.Take node ∷ []))

-- why `take` refuses: the hand isn't free; or it is, and a total is full
abbrev pub TakeFails : BoardFault → BoardState → ℕ → ℕ → Entry → Type 0
TakeFails fault.HandTaken old input number node = at old.state (hand input number) ≢ []
TakeFails fault.TotalsFull old input number node =
    (lost : Bool) × (new : RelayState) × Takes old.plan old.state input number node lost new
    × IsTooFull (stepped old (Event.Take input number node) new (if_so lost (Out.Lost Cause.Take node)))
TakeFails _ old input number node = ⊥

-- ---- enter

-- what holds a message in its hand: the full-delay mark, or else a full queue; the light-delay mark holds nothing here
abbrev pub IsHeldBy : Hold → Plan → RelayState → ℕ → Type 0
IsHeldBy hold.FullDelay plan state input =
    is_delayed (flow_at plan input) (marks_at plan (queue_of_input plan input)) (waiting state (queue_of_input plan input)) ≡ true
IsHeldBy hold.Full plan state input =
    (is_delayed (flow_at plan input) (marks_at plan (queue_of_input plan input)) (waiting state (queue_of_input plan input)) ≡ false)
    × ((parameters_at plan (queue_of_input plan input)).size ≤ waiting state (queue_of_input plan input))
IsHeldBy _ plan state input = ⊥

abbrev pub EnterIs : EnterAnswer → BoardState → ℕ → ℕ → BoardState → Type 0
EnterIs entry.Entered old input number new =
    (node : Entry) × Enters old.plan old.state input number node new.state × (new ≡ stepped old (Event.Enter input number) new.state [])
EnterIs (entry.Held by) old input number new =
    (new ≡ old) × (at old.state (hand input number) ≢ []) × IsHeldBy by old.plan old.state input

-- why `enter` refuses: the hand is free; or a message there may enter, and a total is full
abbrev pub EnterFails : BoardFault → BoardState → ℕ → ℕ → Type 0
EnterFails fault.HandEmpty old input number = at old.state (hand input number) ≡ []
EnterFails fault.TotalsFull old input number = (node : Entry) × (new : RelayState) × Enters old.plan old.state input number node new
    × IsTooFull (stepped old (Event.Enter input number) new [])
EnterFails _ old input number = ⊥

-- ---- expire

abbrev pub ExpireIs : Entry → BoardState → ℕ → ℕ → BoardState → Type 0
ExpireIs node old input number new =
    Expires old.plan old.state input number node new.state
    × (new ≡ stepped old (Event.Expire input number) new.state (Out.Lost Cause.Expire node ∷ []))

-- why `expire` refuses: the hand is free; or the full-delay mark holds its message, or the queue has room for it; or a total is full
abbrev pub ExpireFails : BoardFault → BoardState → ℕ → ℕ → Type 0
ExpireFails fault.HandEmpty old input number = at old.state (hand input number) ≡ []
ExpireFails fault.NotExpired old input number =
    (at old.state (hand input number) ≢ [])
    × (IsHeldBy hold.FullDelay old.plan old.state input
    ⊎ (waiting old.state (queue_of_input old.plan input) < (parameters_at old.plan (queue_of_input old.plan input)).size))
ExpireFails fault.TotalsFull old input number = (node : Entry) × (new : RelayState) × Expires old.plan old.state input number node new
    × IsTooFull (stepped old (Event.Expire input number) new (Out.Lost Cause.Expire node ∷ []))
ExpireFails _ old input number = ⊥

-- ---- grab

-- nothing waits for a worker without entries
pub record NothingWaits (old : BoardState) (worker : ℕ) : Type 0 where
  pub idle : at old.state (Cell.Worker worker) ≡ []
  pub none : waiting old.state (queue_of_worker old.plan worker) ≡ 0

-- Of what was grabbed, so many entries left the queue, and these were lost.
abbrev pub GrabIs : ℕ → List Entry → BoardState → ℕ → BoardState → Type 0
GrabIs count lost old worker new =
    ((new ≡ old) × NothingWaits old worker × (count ≡ 0) × (lost ≡ []))
    ⊎ (Grabs old.plan old.state worker lost new.state
    × (count ≡ min (parameters_at old.plan (queue_of_worker old.plan worker)).batch (waiting old.state (queue_of_worker old.plan worker)))
    × (new ≡ stepped old (Event.Grab worker) new.state (map (Out.Lost Cause.Grab) lost)))

-- why `grab` refuses: the worker has entries; or it could grab, and a total is full
abbrev pub GrabFails : BoardFault → BoardState → ℕ → Type 0
GrabFails fault.SlotBusy old worker = at old.state (Cell.Worker worker) ≢ []
GrabFails fault.TotalsFull old worker = (lost : List Entry) × (new : RelayState) × Grabs old.plan old.state worker lost new
    × IsTooFull (stepped old (Event.Grab worker) new (map (Out.Lost Cause.Grab) lost))
GrabFails _ old worker = ⊥

-- ---- a worker's job

abbrev pub JobIs : JobAnswer → BoardState → ℕ → Type 0
JobIs (job.Run action message tag) board worker =
    (is : Job board.plan board.state worker (occurrence.Run action)) × (arc_value message.now ≡ is.entry.message) × (tag ≡ is.entry.tag)
JobIs (job.Post list input message tag) board worker =
    (is : Job board.plan board.state worker (occurrence.Post list))
    × (input ≡ is.entry.input) × (arc_value message.now ≡ is.entry.message) × (tag ≡ is.entry.tag)

abbrev pub HasNoJob : BoardState → ℕ → Type 0
HasNoJob board worker = (is : Occurrence) → Job board.plan board.state worker is → ⊥

abbrev pub HasNoRun : BoardState → ℕ → Type 0
HasNoRun board worker = (action : ℕ) → Job board.plan board.state worker (occurrence.Run action) → ⊥

abbrev pub HasNoPost : BoardState → ℕ → Type 0
HasNoPost board worker = (list : ℕ) → Job board.plan board.state worker (occurrence.Post list) → ⊥

-- the entry that leaves where nothing more is due for it; or none leaves
abbrev pub LeftIs : Option Entry → RelayState → ℕ → RelayState → Type 0
LeftIs (Some node) old worker new = at old (Cell.Worker worker) ≡ node ∷ at new (Cell.Worker worker)
LeftIs None old worker new = length (at new (Cell.Worker worker)) ≡ length (at old (Cell.Worker worker))

abbrev pub HasRun : BoardState → ℕ → Type 0
HasRun board worker = (action : ℕ) × Job board.plan board.state worker (occurrence.Run action)

-- What a device answered is of the worker's job: the job runs that device's action, on that message.
pub record IsOf (board : BoardState) (worker device : ℕ) (message : Said) : Type 0 where
  pub run : Job board.plan board.state worker (occurrence.Run device)
  pub its : run.entry.message ≡ message

-- of many jobs at once: the action of the worker's job, and the messages of the runs of it that stand next; or there is no run
abbrev pub RunsIs : Option ℕ → BoardState → ℕ → ℕ → List Said → Type 0
RunsIs (Some action) board worker most messages =
    Job board.plan board.state worker (occurrence.Run action)
    × AreRuns board.plan action most (at board.state (Cell.Worker worker)) messages
RunsIs None board worker most messages = HasNoRun board worker × (messages ≡ [])

abbrev pub SettleIs : BoardState → ℕ → Delivered → BoardState → Type 0
SettleIs old worker receipt new = (of : IsOf old worker receipt.device receipt.message)
    × Settles old.plan old.state worker receipt.device of.run.entry new.state
    × (new ≡ stepped old (Event.Done worker) new.state (Out.Passed receipt.device of.run.entry ∷ []))

-- why `settle` refuses: the worker's job isn't to run an action; or it is, and the receipt isn't of it; or the receipt is, and a total is full
abbrev pub SettleFails : BoardFault → BoardState → ℕ → Delivered → Type 0
SettleFails fault.NoJob old worker receipt = HasNoRun old worker
SettleFails fault.WrongReceipt old worker receipt = HasRun old worker × (IsOf old worker receipt.device receipt.message → ⊥)
SettleFails fault.TotalsFull old worker receipt =
    (of : IsOf old worker receipt.device receipt.message) × (new : RelayState)
    × Settles old.plan old.state worker receipt.device of.run.entry new
    × IsTooFull (stepped old (Event.Done worker) new (Out.Passed receipt.device of.run.entry ∷ []))
SettleFails _ old worker receipt = ⊥

-- The next of some receipts, and what is left of them without it.
pub record IsNextReceipt (receipts : DeliveredAll) (receipt : Delivered) (left : DeliveredAll) : Type 0 where
  pub its : receipt.device ≡ receipts.device
  pub others : left.device ≡ receipts.device
  pub are : receipts.messages ≡ receipt.message ∷ left.messages

-- the worker's job is settled by the next of these receipts, and these are left
abbrev pub SettlesNext : BoardState → ℕ → DeliveredAll → BoardState → DeliveredAll → Type 0
SettlesNext old worker receipts new left = (next : Delivered) × IsNextReceipt receipts next left × SettleIs old worker next new

-- it can't be, since `settle` refuses that receipt
abbrev pub SettlesNoNext : BoardFault → BoardState → ℕ → DeliveredAll → Type 0
SettlesNoNext why old worker receipts =
    (next : Delivered) × (left : DeliveredAll) × IsNextReceipt receipts next left × SettleFails why old worker next

-- A failure is of the worker's job where its message was offered to the device, besides: only a count that is full keeps it from that.
pub record IsFailureOf (board : BoardState) (worker : ℕ) (failure : Refused) : Type 0 where
  pub of : IsOf board worker failure.device failure.message
  pub offered : failure.fault ≢ device_fault.CountFull

-- Whether the device took the message all the same, the board can't know: it counts the same.
abbrev pub FailIs : Retry → BoardState → ℕ → Refused → BoardState → Type 0
FailIs retry.Again old worker failure new = (is : IsFailureOf old worker failure)
    × Fails old.plan old.state worker failure.device is.of.run.entry new.state
    × ((took : Bool) → new ≡ stepped old (Event.Fail worker took) new.state (if_so took (Out.Passed failure.device is.of.run.entry)))
FailIs retry.GaveUp old worker failure new = (is : IsFailureOf old worker failure)
    × GivesUp old.plan old.state worker failure.device is.of.run.entry new.state
    × ((took : Bool) → new ≡ stepped old (Event.GiveUp worker took) new.state
    (Out.Lost (Cause.GiveUp failure.device) is.of.run.entry ∷ if_so took (Out.Passed failure.device is.of.run.entry)))

-- why `failed` refuses: the worker's job isn't to run an action; or it is, and the failure isn't of it; or the failure is, the job would be given
-- up, and a total is full
abbrev pub FailFails : BoardFault → BoardState → ℕ → Refused → Type 0
FailFails fault.NoJob old worker failure = HasNoRun old worker
FailFails fault.WrongReceipt old worker failure = HasRun old worker × (IsFailureOf old worker failure → ⊥)
FailFails fault.TotalsFull old worker failure =
    (is : IsFailureOf old worker failure) × (new : RelayState)
    × GivesUp old.plan old.state worker failure.device is.of.run.entry new
    × IsTooFull (stepped old (Event.GiveUp worker false) new (Out.Lost (Cause.GiveUp failure.device) is.of.run.entry ∷ []))
FailFails _ old worker failure = ⊥

-- ---- posts

-- The entry is the one that the worker's post makes.
abbrev pub IsForPost : BoardState → ℕ → Entry → Type 0
IsForPost board worker node =
    (list : ℕ) → (is : Job board.plan board.state worker (occurrence.Post list)) → IsPosted board.plan is.entry list node

abbrev pub PostIs : Posted → BoardState → ℕ → Entry → BoardState → Type 0
PostIs posted.Done old worker node new =
    (list : ℕ) × Posts old.plan old.state worker list node false new.state × (new ≡ stepped old (Event.Post worker) new.state [])
-- the full-delay mark of the list's queue holds the post, or the queue is full; and the entry isn't discarded there
PostIs (posted.Held back) old worker node new =
    (back ≡ node) × (new ≡ old) × (list : ℕ) × Job old.plan old.state worker (occurrence.Post list)
    × (discards (marks_at old.plan (queue_for old.plan list)) node.message.class.severity (waiting old.state (queue_for old.plan list)) ≡ false)
    × ((is_post_held old.plan old.state list ≡ true)
    ⊎ ((parameters_at old.plan (queue_for old.plan list)).size ≤ waiting old.state (queue_for old.plan list)))
PostIs (posted.Discarded lost) old worker node new =
    (lost ≡ node) × (list : ℕ) × (posts : Posts old.plan old.state worker list node true new.state)
    × (new ≡ stepped old (Event.Post worker) new.state (Out.Lost (Cause.Post list) posts.job.entry ∷ []))

-- why `post` refuses: the worker's job isn't a post; or it could post, and a total is full
abbrev pub PostFails : BoardFault → BoardState → ℕ → Entry → Type 0
PostFails fault.NoJob old worker node = HasNoPost old worker
PostFails fault.TotalsFull old worker node =
    (list : ℕ) × (lost : Bool) × (new : RelayState) × (posts : Posts old.plan old.state worker list node lost new)
    × IsTooFull (stepped old (Event.Post worker) new (if_so lost (Out.Lost (Cause.Post list) posts.job.entry)))
PostFails _ old worker node = ⊥

abbrev pub is_no_memory : PostCause → Bool
is_no_memory cause.Full = false
is_no_memory cause.NoMemory = true

abbrev pub PostLostIs : PostCause → BoardState → ℕ → BoardState → Type 0
PostLostIs why old worker new =
    (list : ℕ) × (node : Entry) × LosesPost old.plan old.state worker list (is_no_memory why) node new.state
    × (new ≡ stepped old (Event.PostLost worker (is_no_memory why)) new.state (Out.Lost (Cause.PostLost list) node ∷ []))

-- why `post_lost` refuses: the worker's job isn't a post; it may not be lost for that cause, which is no memory where posts wait, and a full queue where
-- the full-delay mark holds the post, or the queue isn't full; or a total is full
abbrev pub PostLostFails : BoardFault → PostCause → BoardState → ℕ → Type 0
PostLostFails fault.NoJob why old worker = HasNoPost old worker
PostLostFails fault.NotExpired why old worker =
    (list : ℕ) × Job old.plan old.state worker (occurrence.Post list) × (MayBeLost old.plan old.state list (is_no_memory why) → ⊥)
PostLostFails fault.TotalsFull why old worker =
    (list : ℕ) × (node : Entry) × (new : RelayState) × LosesPost old.plan old.state worker list (is_no_memory why) node new
    × IsTooFull (stepped old (Event.PostLost worker (is_no_memory why)) new (Out.Lost (Cause.PostLost list) node ∷ []))
PostLostFails _ why old worker = ⊥

-- ---- steps

-- The board made the step, with what it lets out.
abbrev pub Made : BoardState → Event → BoardState → Type 0
Made old event new = (outs : List Out) × Step old.plan old.state event new.state outs × (new ≡ stepped old event new.state outs)
