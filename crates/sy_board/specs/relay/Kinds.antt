-- What may be wrong at an input of a relay, for messages of a class: six kinds, each a condition on the plan and the spare actions alone (this
-- profile's own).
use Rattle.std.specs.Prelude.{◌≡◌, ◌≢◌, ℕ, ◌<◌, ◌≤◌, ◌⊎◌, List, Some}
use Rattle.sy_wire.specs.declared.class.Class.{Class}
use Rattle.sy_marks.specs.declared.marks.Flow.{Flow}
use Rattle.sy_marks.specs.declared.marks.Flow.TheVariants as flow
use Rattle.sy_rules.specs.declared.lists.occurrence.Occurrence.TheVariants as occurrence
use Rattle.sy_rules.specs.declared.parameters.settings.QueueParameters.{QueueParameters}
use Rattle.sy_rules.specs.PlanValue.{Plan}
use Rattle.sy_rules.specs.Whole.{queue_for}
use Rattle.sy_board.specs.relay.Feeders.{IsFedFreely}
use Rattle.sy_board.specs.relay.Plans.{flow_at, parameters_at, post_flow, queue_of_input, retry_at}
use Rattle.sy_board.specs.relay.Spares.{Follows, MayDo, Scope}

pub data Kind : Type 0 where
  NotFull MarkOff MarkAboveSize Discards InnerQueue GivesUp : Kind

-- the parameters of the input's queue
abbrev pub queue_of : Plan → ℕ → QueueParameters
queue_of plan input = parameters_at plan (queue_of_input plan input)

-- A message of the class can be discarded: the queue discards its severity at some mark, and free feeders, or those that the full-delay mark holds, fill
-- it so far.
pub record MayDiscard (plan : Plan) (class : Class) (queue : ℕ) : Type 0 where
  pub severe : (parameters_at plan queue).discard_severity ≤ class.severity
  pub on : 0 < (parameters_at plan queue).discard_mark
  pub reached : IsFedFreely plan queue ⊎ ((parameters_at plan queue).discard_mark ≤ (parameters_at plan queue).full_delay_mark)

-- A message of the class that a feeder with this flow puts into the queue can be lost on the way: the feeder doesn't wait at the full-delay mark, or there
-- is none, or it is above the size, or the queue discards. At an input these are the first four kinds.
abbrev pub MayLose : Plan → Class → ℕ → Flow → Type 0
MayLose plan class queue waits =
    (waits ≢ flow.Full)
    ⊎ (((parameters_at plan queue).full_delay_mark ≡ 0)
    ⊎ (((parameters_at plan queue).size < (parameters_at plan queue).full_delay_mark) ⊎ MayDiscard plan class queue))

-- It may be put into another queue of the relay, which can lose it, by a post of a list that it may follow from the input on; the post isn't spare.
pub record MayPost (plan : Plan) (spares : List ℕ) (class : Class) (input : ℕ) : Type 0 where
  pub list : ℕ
  pub follows : Follows plan spares class Scope.Firm input list
  pub number : ℕ
  pub to : ℕ
  pub does : MayDo plan spares class Scope.Firm list number (occurrence.Post to)
  pub loses : MayLose plan class (queue_for plan to) (post_flow plan (queue_for plan to))

-- an action that it may execute and that isn't spare, with its number, in a list that it may follow from the input on
pub record MayRun (plan : Plan) (spares : List ℕ) (class : Class) (input : ℕ) (action : ℕ) : Type 0 where
  pub list : ℕ
  pub follows : Follows plan spares class Scope.Firm input list
  pub number : ℕ
  pub does : MayDo plan spares class Scope.Firm list number (occurrence.Run action)

-- The kind's condition on an input, for a class.
abbrev pub HoldsAt : Plan → List ℕ → Class → ℕ → Kind → Type 0
HoldsAt plan spares class input Kind.NotFull = flow_at plan input ≢ flow.Full
HoldsAt plan spares class input Kind.MarkOff = (queue_of plan input).full_delay_mark ≡ 0
HoldsAt plan spares class input Kind.MarkAboveSize = (queue_of plan input).size < (queue_of plan input).full_delay_mark
HoldsAt plan spares class input Kind.Discards = MayDiscard plan class (queue_of_input plan input)
HoldsAt plan spares class input Kind.InnerQueue = MayPost plan spares class input
HoldsAt plan spares class input Kind.GivesUp =
    (action : ℕ) × MayRun plan spares class input action × (retry : ℕ) × (retry_at plan action ≡ Some retry)
