-- What a worker finds to do.
use Rattle.std.specs.Prelude.{◌≡◌, ◌≢◌, ◌<◌, ◌≤◌, ◌⊎◌, ℕ, List, None, Option, Some, length, true}
use Rattle.sy_chain.specs.Entries.{Entry}
use Rattle.sy_wire.specs.Messages.{Said}
use Rattle.sy_rules.specs.declared.lists.occurrence.Occurrence.TheVariants as occurrence
use Rattle.sy_rules.specs.declared.parameters.settings.QueueParameters.{QueueParameters}
use Rattle.sy_rules.specs.PlanValue.{Plan}
use Rattle.sy_board.specs.relay.Plans.{IsDue}
use Rattle.sy_board.specs.declared.fault.BoardFault.{BoardFault}
use Rattle.sy_board.specs.declared.fault.BoardFault.TheVariants as fault
use Rattle.sy_board.specs.declared.relay.answers.PostCause.TheVariants as cause
use Rattle.sy_board.specs.declared.relay.answers.Posted.TheVariants as posted
use Rattle.sy_board.specs.relay.Boards.{BoardState, GrabFails, GrabIs, HasNoPost, HasRun, NothingWaits, PostFails, PostIs, PostLostFails, PostLostIs, RunsIs}
use Rattle.sy_board.specs.relay.Steps.{Job, is_post_held}
use Rattle.sy_runtime.specs.declared.worker.finding.Next.{Next}
use Rattle.sy_runtime.specs.declared.worker.finding.Next.TheVariants as next
use Rattle.sy_runtime.specs.declared.worker.posting.PostOutcome.{PostOutcome}
use Rattle.sy_runtime.specs.declared.worker.posting.PostOutcome.TheVariants.{Done, Held, NoMemory, Refused}

-- The board refuses the worker's post: a total is full, or its job is none.
abbrev pub PostRefused : BoardState → ℕ → Type 0
PostRefused old worker =
    HasNoPost old worker ⊎ ((node : Entry) × PostFails fault.TotalsFull old worker node) ⊎ PostLostFails fault.TotalsFull cause.NoMemory old worker

-- the entry that a post to a list makes: this message, of this input and with this tag, with all due that it executes there
abbrev pub IsEntryOf : Plan → ℕ → ℕ → Said → ℕ → Entry → Type 0
IsEntryOf plan list input message tag node =
    (due : ℕ) × IsDue plan list message due × (node ≡ record { message = message; list = list; input = input; due = due; tag = tag })

-- What became of a worker's post: its entry came to the queue or was discarded there, or there was no memory for one; or it is held; or there was no
-- memory, for which no post into that queue is lost.
abbrev pub PostWas : PostOutcome → BoardState → ℕ → BoardState → Type 0
PostWas Done old worker new =
    ((node : Entry) × PostIs posted.Done old worker node new)
    ⊎ ((node : Entry) × PostIs (posted.Discarded node) old worker node new)
    ⊎ PostLostIs cause.NoMemory old worker new
PostWas Held old worker new = (node : Entry) × PostIs (posted.Held node) old worker node new
PostWas NoMemory old worker new = (new ≡ old) × PostLostFails fault.NotExpired cause.NoMemory old worker
PostWas Refused old worker new = (new ≡ old) × PostRefused old worker

-- ---- how long a held post waits

-- The full-delay mark of the queue holds posts: they wait there, and it is reached where the queue is full, if not before.
abbrev pub WaitsAtMark : QueueParameters → Type 0
WaitsAtMark queue = (queue.waits ≡ true) × (0 < queue.full_delay_mark) × (queue.full_delay_mark ≤ queue.size)

-- A post waits as long as it takes where the mark holds it, and else no longer than queue.timeoutEnqueue.
abbrev pub PatienceIs : Option ℕ → QueueParameters → Type 0
PatienceIs None queue = WaitsAtMark queue
PatienceIs (Some time) queue = (WaitsAtMark queue → ⊥) × (time ≡ queue.timeout_enqueue)

-- The full-delay mark of its list's queue holds the worker's post.
abbrev pub IsHeldAtMark : BoardState → ℕ → Type 0
IsHeldAtMark board worker =
    (list : ℕ) × Job board.plan board.state worker (occurrence.Post list) × (is_post_held board.plan board.state list ≡ true)

-- ---- what it does next

-- A worker ends that isn't there, or of which the board refuses what is next.
abbrev pub CannotGoOn : BoardState → ℕ → Type 0
CannotGoOn old worker =
    (length old.plan.workers ≤ worker) ⊎ PostRefused old worker ⊎ ((fault : BoardFault) × GrabFails fault old worker)

-- What a worker does next, with these messages, and what became of the board: only a post and a batch change it. Of up to 256 runs that stand next the
-- messages are offered. Memory is wanted for these, or for a post.
abbrev pub NextIs : Next → List Said → BoardState → ℕ → BoardState → Type 0
NextIs (next.Run action) messages old worker new = (new ≡ old) × RunsIs (Some action) old worker 256 messages
NextIs next.Posted messages old worker new = PostWas Done old worker new
NextIs next.Held messages old worker new = PostWas Held old worker new
NextIs next.Grabbed messages old worker new =
    (count : ℕ) × (lost : List Entry) × (count ≢ 0) × GrabIs count lost old worker new
NextIs next.Idle messages old worker new = (new ≡ old) × NothingWaits old worker
NextIs next.NoMemory messages old worker new = ((new ≡ old) × HasRun old worker) ⊎ PostWas NoMemory old worker new
NextIs next.Ends messages old worker new = (new ≡ old) × CannotGoOn old worker
