-- The nine steps of a relay. Each is a relation of what the relay held before, the step's arguments and what it holds after; nothing else changes.
-- The steps Take to Grab are about an entry on its way to a worker, the others about a worker's job: the lowest occurrence due of its first
-- entry. How long anything waits stands in no step: a wait may end at any moment.
use Rattle.std.specs.Prelude.{◌≡◌, ◌≢◌, ℕ, ◌+◌, ◌<◌, ◌≤◌, ◌==◌, ◌⊎◌, Bool, true, false, if◌then◌else◌, List, [], ◌∷◌, ◌++◌, length, map, drop, Option, Some, None, slice_get}
use Rattle.sy_chain.specs.Entries.{Entry}
use Rattle.sy_rules.specs.declared.lists.occurrence.Occurrence.{Occurrence}
use Rattle.sy_rules.specs.declared.lists.occurrence.Occurrence.TheVariants as occurrence
use Rattle.sy_marks.specs.declared.marks.Flow.TheVariants as flow
use Rattle.sy_marks.specs.Marks.{discards, is_delayed, kept_of, lost_of}
use Rattle.sy_rules.specs.lists.Sets.{IsLowest}
use Rattle.sy_rules.specs.Whole.{queue_for}
use Rattle.sy_rules.specs.PlanValue.{Plan}
use Rattle.sy_board.specs.relay.Cells.{Cell, RelayState, at, set_cell, failures_at, set_failures, hand, waiting}
use Rattle.sy_board.specs.relay.Plans.{IsDue, flow_at, input_at, marks_at, occurrences_at, parameters_at, post_flow, queue_of_input, queue_of_worker, retry_at}

-- ---- a message comes in

-- the input is there, and each input has 64 hands
abbrev pub IsHand : Plan → ℕ → ℕ → Type 0
IsHand plan input number = (input < length plan.inputs) × (number < 64)

-- the entry that an input makes of a message: it follows the input's list, and all is due that the message executes there
pub record IsOfInput (plan : Plan) (input : ℕ) (node : Entry) : Type 0 where
  pub input_is : node.input ≡ input
  pub list : node.list ≡ (input_at plan input).list
  pub due : IsDue plan (input_at plan input).list node.message node.due

-- Take: an entry comes to a free hand; where it is discarded, it is lost and the hand stays free (queue.discardMark).
pub record Takes (plan : Plan) (old : RelayState) (input number : ℕ) (node : Entry) (lost : Bool) (new : RelayState) : Type 0 where
  pub there : IsHand plan input number
  pub made : IsOfInput plan input node
  pub free : at old (hand input number) ≡ []
  pub discarded :
      discards (marks_at plan (queue_of_input plan input)) node.message.class.severity (waiting old (queue_of_input plan input)) ≡ lost
  pub after : new ≡ if lost then old else set_cell old (hand input number) (node ∷ [])

-- A hand's entry may leave where the full-delay mark doesn't hold it (queue.fullDelayMark).
pub record MayLeave (plan : Plan) (old : RelayState) (input number : ℕ) (node : Entry) : Type 0 where
  pub there : IsHand plan input number
  pub held : at old (hand input number) ≡ node ∷ []
  pub not_held :
      is_delayed (flow_at plan input) (marks_at plan (queue_of_input plan input)) (waiting old (queue_of_input plan input)) ≡ false

-- Enter: a hand's entry, which the full-delay mark doesn't hold, goes to the end of the input's queue, which isn't full (queue.size).
pub record Enters (plan : Plan) (old : RelayState) (input number : ℕ) (node : Entry) (new : RelayState) : Type 0 where
  pub leaves : MayLeave plan old input number node
  pub room : waiting old (queue_of_input plan input) < (parameters_at plan (queue_of_input plan input)).size
  pub after : new ≡ set_cell (set_cell old (hand input number) [])
      (Cell.Queue (queue_of_input plan input)) (at old (Cell.Queue (queue_of_input plan input)) ++ node ∷ [])

-- Expire: a hand's entry, which the full-delay mark doesn't hold, is lost, since the input's queue is full (queue.timeoutEnqueue).
pub record Expires (plan : Plan) (old : RelayState) (input number : ℕ) (node : Entry) (new : RelayState) : Type 0 where
  pub leaves : MayLeave plan old input number node
  pub full : (parameters_at plan (queue_of_input plan input)).size ≤ waiting old (queue_of_input plan input)
  pub after : new ≡ set_cell old (hand input number) []

-- ---- a worker takes entries

-- Grab: a worker without entries takes a batch from the front of its queue, or all that waits there, which is something
-- (queue.dequeueBatchSize). It keeps what is neither discarded nor, with nothing due, finished.
pub record Grabs (plan : Plan) (old : RelayState) (worker : ℕ) (lost : List Entry) (new : RelayState) : Type 0 where
  pub there : worker < length plan.workers
  pub idle : at old (Cell.Worker worker) ≡ []
  pub some : 0 < waiting old (queue_of_worker plan worker)
  pub lost_are : lost ≡ lost_of (marks_at plan (queue_of_worker plan worker))
      (parameters_at plan (queue_of_worker plan worker)).batch (at old (Cell.Queue (queue_of_worker plan worker)))
  pub after : new ≡ set_cell
      (set_cell old (Cell.Queue (queue_of_worker plan worker))
      (drop (parameters_at plan (queue_of_worker plan worker)).batch (at old (Cell.Queue (queue_of_worker plan worker)))))
      (Cell.Worker worker)
      (kept_of (marks_at plan (queue_of_worker plan worker))
      (parameters_at plan (queue_of_worker plan worker)).batch (at old (Cell.Queue (queue_of_worker plan worker))))

-- ---- a worker's job

-- the worker's job: its first entry, and the occurrence that is the lowest due of it
pub record Job (plan : Plan) (old : RelayState) (worker : ℕ) (is : Occurrence) : Type 0 where
  pub there : worker < length plan.workers
  pub entry : Entry
  pub others : List Entry
  pub held : at old (Cell.Worker worker) ≡ entry ∷ others
  pub number : ℕ
  pub left : ℕ
  pub first : IsLowest entry.due number left
  pub found : slice_get (occurrences_at plan entry.list) number ≡ Some is

-- an entry of which this is left due, before others; without anything due it is done, and leaves
abbrev pub still : Entry → ℕ → List Entry → List Entry
still e left others = if left == 0 then others else record e { due = left } ∷ others

-- the job's occurrence is dealt with, and the next one hasn't failed yet
abbrev pub advanced : (plan : Plan) (old : RelayState) (worker : ℕ) (is : Occurrence) → Job plan old worker is → RelayState
advanced plan old worker is job = set_failures (set_cell old (Cell.Worker worker) (still job.entry job.left job.others)) worker 0

-- Done: the job runs an action, whose device took the message.
pub record Settles (plan : Plan) (old : RelayState) (worker action : ℕ) (entry : Entry) (new : RelayState) : Type 0 where
  pub job : Job plan old worker (occurrence.Run action)
  pub its : job.entry ≡ entry
  pub after : new ≡ advanced plan old worker (occurrence.Run action) job

-- a job that failed so often may be tried again
abbrev pub MayTry : Option ℕ → ℕ → Type 0
MayTry None failures = Unit {0}
MayTry (Some retry) failures = failures < retry

-- failures are counted where there is a limit
abbrev pub one_more : Option ℕ → ℕ → ℕ
one_more None failures = failures
one_more (Some retry) failures = failures + 1

-- Fail: the action failed, and may be tried again (action.resumeRetryCount).
pub record Fails (plan : Plan) (old : RelayState) (worker action : ℕ) (entry : Entry) (new : RelayState) : Type 0 where
  pub job : Job plan old worker (occurrence.Run action)
  pub its : job.entry ≡ entry
  pub again : MayTry (retry_at plan action) (failures_at old worker)
  pub after : new ≡ set_failures old worker (one_more (retry_at plan action) (failures_at old worker))

-- Give up: it failed once more than it may be tried again, and the occurrence is lost.
pub record GivesUp (plan : Plan) (old : RelayState) (worker action : ℕ) (entry : Entry) (new : RelayState) : Type 0 where
  pub job : Job plan old worker (occurrence.Run action)
  pub its : job.entry ≡ entry
  pub last : retry_at plan action ≡ Some (failures_at old worker)
  pub after : new ≡ advanced plan old worker (occurrence.Run action) job

-- the entry that a post makes of another: the same message of the same input, which follows the new list
pub record IsPosted (plan : Plan) (entry : Entry) (list : ℕ) (node : Entry) : Type 0 where
  pub message : node.message ≡ entry.message
  pub list_is : node.list ≡ list
  pub input : node.input ≡ entry.input
  pub tag : node.tag ≡ entry.tag
  pub due : IsDue plan list entry.message node.due

-- whether the full-delay mark of the list's queue holds a post (queue.workerFlow)
abbrev pub is_post_held : Plan → RelayState → ℕ → Bool
is_post_held plan old list =
    is_delayed (post_flow plan (queue_for plan list)) (marks_at plan (queue_for plan list)) (waiting old (queue_for plan list))

-- the list's queue has room for a post, which its mark doesn't hold
pub record HasRoom (plan : Plan) (old : RelayState) (list : ℕ) : Type 0 where
  pub not_full : waiting old (queue_for plan list) < (parameters_at plan (queue_for plan list)).size
  pub not_held : is_post_held plan old list ≡ false

-- Post: the job puts a new entry to the end of the list's queue, which has room for it; where that entry is discarded, it is lost, whether there is
-- room or not.
pub record Posts (plan : Plan) (old : RelayState) (worker list : ℕ) (node : Entry) (lost : Bool) (new : RelayState) : Type 0 where
  pub job : Job plan old worker (occurrence.Post list)
  pub made : IsPosted plan job.entry list node
  pub discarded :
      discards (marks_at plan (queue_for plan list)) node.message.class.severity (waiting old (queue_for plan list)) ≡ lost
  pub room : (lost ≡ true) ⊎ HasRoom plan old list
  pub after : new ≡ if lost then advanced plan old worker (occurrence.Post list) job
      else set_cell (advanced plan old worker (occurrence.Post list) job)
      (Cell.Queue (queue_for plan list)) (at old (Cell.Queue (queue_for plan list)) ++ node ∷ [])

-- the list's queue is full, and its mark doesn't hold the post
pub record IsFull (plan : Plan) (old : RelayState) (list : ℕ) : Type 0 where
  pub full : (parameters_at plan (queue_for plan list)).size ≤ waiting old (queue_for plan list)
  pub not_held : is_post_held plan old list ≡ false

-- Why a post may be lost: there was no memory for a new entry, for which no post that waits at the full-delay mark is lost; or the queue is full.
abbrev pub MayBeLost : Plan → RelayState → ℕ → (no_memory : Bool) → Type 0
MayBeLost plan old list true = post_flow plan (queue_for plan list) ≢ flow.Full
MayBeLost plan old list false = IsFull plan old list

-- Post lost: for one of these causes the occurrence is lost.
pub record LosesPost (plan : Plan) (old : RelayState) (worker list : ℕ) (no_memory : Bool) (entry : Entry) (new : RelayState) : Type 0 where
  pub job : Job plan old worker (occurrence.Post list)
  pub its : job.entry ≡ entry
  pub cause : MayBeLost plan old list no_memory
  pub after : new ≡ advanced plan old worker (occurrence.Post list) job

-- ---- all steps as one relation

-- by which step an entry, or an occurrence of it, was lost
pub data Cause : Type 0 where
  Take Expire Grab : Cause
  -- an occurrence that runs this action
  GiveUp : (action : ℕ) → Cause
  -- one that posts to this list
  Post PostLost : (list : ℕ) → Cause

-- What a step lets out of the relay: an entry whose message the action's device took; an entry that was lost, or an occurrence of it.
pub data Out : Type 0 where
  Passed : (action : ℕ) → Entry → Out
  Lost : Cause → Entry → Out

-- a step with its arguments; `took` is whether the device took the message all the same
pub data Event : Type 0 where
  Take : (input hand : ℕ) → Entry → Event
  Enter : (input hand : ℕ) → Event
  Expire : (input hand : ℕ) → Event
  Grab : (worker : ℕ) → Event
  Done : (worker : ℕ) → Event
  Fail : (worker : ℕ) (took : Bool) → Event
  GiveUp : (worker : ℕ) (took : Bool) → Event
  Post : (worker : ℕ) → Event
  PostLost : (worker : ℕ) (no_memory : Bool) → Event

abbrev pub if_so : {A : Type 0} → Bool → A → List A
if_so there x = if there then x ∷ [] else []

-- The event leads from the old part to the new one, and lets these out.
abbrev pub Step : Plan → RelayState → Event → RelayState → List Out → Type 0
Step plan old (Event.Take input h node) new outs =
    (lost : Bool) × Takes plan old input h node lost new × (outs ≡ if_so lost (Out.Lost Cause.Take node))
Step plan old (Event.Enter input h) new outs = (node : Entry) × Enters plan old input h node new × (outs ≡ [])
Step plan old (Event.Expire input h) new outs =
    (node : Entry) × Expires plan old input h node new × (outs ≡ Out.Lost Cause.Expire node ∷ [])
Step plan old (Event.Grab w) new outs = (lost : List Entry) × Grabs plan old w lost new × (outs ≡ map (Out.Lost Cause.Grab) lost)
Step plan old (Event.Done w) new outs = (a : ℕ) × (e : Entry) × Settles plan old w a e new × (outs ≡ Out.Passed a e ∷ [])
Step plan old (Event.Fail w took) new outs =
    (a : ℕ) × (e : Entry) × Fails plan old w a e new × (outs ≡ if_so took (Out.Passed a e))
Step plan old (Event.GiveUp w took) new outs =
    (a : ℕ) × (e : Entry) × GivesUp plan old w a e new × (outs ≡ Out.Lost (Cause.GiveUp a) e ∷ if_so took (Out.Passed a e))
Step plan old (Event.Post w) new outs =
    (l : ℕ) × (node : Entry) × (lost : Bool) × (posts : Posts plan old w l node lost new) × (outs ≡ if_so lost (Out.Lost (Cause.Post l) posts.job.entry))
Step plan old (Event.PostLost w no_memory) new outs =
    (l : ℕ) × (e : Entry) × LosesPost plan old w l no_memory e new × (outs ≡ Out.Lost (Cause.PostLost l) e ∷ [])
