-- What puts messages into a queue, and how long a queue becomes (this profile's own).
use Rattle.std.specs.Prelude.{◌≡◌, ℕ, ◌≤◌, ◌<◌, length, Some, slice_get}
use Rattle.sy_marks.specs.declared.marks.Flow.{Flow}
use Rattle.sy_marks.specs.declared.marks.Flow.TheVariants as flow
use Rattle.sy_rules.specs.declared.lists.occurrence.Occurrence.TheVariants as occurrence
use Rattle.sy_rules.specs.PlanValue.{Plan}
use Rattle.sy_rules.specs.Whole.{queue_for}
use Rattle.sy_board.specs.relay.Cells.{RelayState, waiting}
use Rattle.sy_board.specs.relay.Plans.{flow_at, occurrences_at, parameters_at, post_flow, queue_of_input}

-- what may put a message into a queue: an input, or an occurrence of a list
pub data Feeder : Type 0 where
  Input : (number : ℕ) → Feeder
  Post : (list number : ℕ) → Feeder

-- A feeder of a queue: an input whose queue it is, or a post, of any list and for any class, to a list whose queue it is.
abbrev pub Feeds : Plan → ℕ → Feeder → Type 0
Feeds plan queue (Feeder.Input number) = (number < length plan.inputs) × (queue_of_input plan number ≡ queue)
Feeds plan queue (Feeder.Post list number) =
    (to : ℕ) × (slice_get (occurrences_at plan list) number ≡ Some (occurrence.Post to)) × (queue_for plan to ≡ queue)

-- how a feeder of a queue waits: an input by imtcp's flowControl, a post by the queue's workerFlow
abbrev pub feeder_flow : Plan → ℕ → Feeder → Flow
feeder_flow plan queue (Feeder.Input number) = flow_at plan number
feeder_flow plan queue (Feeder.Post list number) = post_flow plan queue

-- a full-delay feeder, which the queue's full-delay mark holds
abbrev pub IsFullDelay : Plan → ℕ → Feeder → Type 0
IsFullDelay plan queue feeder = feeder_flow plan queue feeder ≡ flow.Full

-- all feeders are full-delay feeders
abbrev pub OnlyFullDelay : Plan → ℕ → Type 0
OnlyFullDelay plan queue = (feeder : Feeder) → Feeds plan queue feeder → IsFullDelay plan queue feeder

-- some feeder of the queue, of any class, isn't a full-delay feeder
pub record IsFedFreely (plan : Plan) (queue : ℕ) : Type 0 where
  pub feeder : Feeder
  pub feeds : Feeds plan queue feeder
  pub is_free : IsFullDelay plan queue feeder → ⊥

-- The length bound: each queue whose feeders are all full-delay feeders, and whose full-delay mark isn't off, is no longer than that mark.
abbrev pub IsWithinMarks : Plan → RelayState → Type 0
IsWithinMarks plan state = (queue : ℕ) → OnlyFullDelay plan queue → 1 ≤ (parameters_at plan queue).full_delay_mark
    → waiting state queue ≤ (parameters_at plan queue).full_delay_mark
