-- What the steps of a relay ask of its plan. Of a number that the plan doesn't have, the answers here mean nothing. Parameters are named as in
-- the rsyslog manual ("General Queue Parameters", "Actions", imtcp); what they do is this profile's own.
use Rattle.std.specs.Prelude.{ℕ, false, if◌then◌else◌, List, Option, Some, None, slice_get, slice_index_or}
use Rattle.sy_wire.specs.Messages.{Said}
use Rattle.sy_rules.specs.declared.lists.occurrence.Occurrence.{Occurrence}
use Rattle.sy_rules.specs.declared.parameters.settings.FlowControl.{FlowControl}
use Rattle.sy_rules.specs.declared.parameters.settings.FlowControl.TheVariants as control
use Rattle.sy_rules.specs.declared.parameters.settings.QueueParameters.{QueueParameters}
use Rattle.sy_rules.specs.declared.parts.Action.{Action}
use Rattle.sy_rules.specs.declared.parts.Input.{Input}
use Rattle.sy_marks.specs.declared.marks.Flow.{Flow}
use Rattle.sy_marks.specs.declared.marks.Flow.TheVariants as flow
use Rattle.sy_marks.specs.declared.marks.Marks.{Marks}
use Rattle.sy_rules.specs.PlanValue.{Plan}
use Rattle.sy_rules.specs.Whole.{body_at}
use Rattle.sy_rules.specs.lists.Body.{occurrences}
use Rattle.sy_rules.specs.lists.Sets.{Bits}
use Rattle.sy_rules.specs.lists.Work.{Due}

abbrev pub input_at : Plan → ℕ → Input
input_at plan input = slice_index_or plan.inputs input (record { port = 0; flow = control.Off; list = 0; queue = 0; unread_file = None })

-- the queue that an input's messages are put into
abbrev pub queue_of_input : Plan → ℕ → ℕ
queue_of_input plan input = (input_at plan input).queue

-- the queue that a worker takes from
abbrev pub queue_of_worker : Plan → ℕ → ℕ
queue_of_worker plan worker = slice_index_or plan.workers worker 0

-- the parameters of a queue
abbrev pub parameters_at : Plan → ℕ → QueueParameters
parameters_at plan queue = slice_index_or plan.queues queue (record {
  size = 0;
  batch = 0;
  full_delay_mark = 0;
  light_delay_mark = 0;
  discard_mark = 0;
  discard_severity = 0;
  timeout_enqueue = 0;
  workers = 0;
  waits = false;
})

-- what a list executes, by number
abbrev pub occurrences_at : Plan → ℕ → List Occurrence
occurrences_at plan list = occurrences (body_at plan list)

-- one of these
abbrev pub occurrence_at : Plan → ℕ → ℕ → Option Occurrence
occurrence_at plan list number = slice_get (occurrences_at plan list) number

abbrev pub retry_in : Option Action → Option ℕ
retry_in None = None
retry_in (Some action) = action.retry

-- action.resumeRetryCount: how often a failed message is tried again; none where without end
abbrev pub retry_at : Plan → ℕ → Option ℕ
retry_at plan action = retry_in (slice_get plan.actions action)

-- the set of those occurrences of a list that a message executes
abbrev pub IsDue : Plan → ℕ → Said → ℕ → Type 0
IsDue plan list message due = Bits (Due (body_at plan list) message) due

-- ---- the marks of a queue

abbrev pub marks_of : QueueParameters → Marks
marks_of queue = record {
  size = queue.size;
  full_delay_mark = queue.full_delay_mark;
  light_delay_mark = queue.light_delay_mark;
  discard_mark = queue.discard_mark;
  discard_severity = queue.discard_severity;
}

abbrev pub marks_at : Plan → ℕ → Marks
marks_at plan queue = marks_of (parameters_at plan queue)

-- how an input's messages wait (flowControl)
abbrev pub flow_of : FlowControl → Flow
flow_of control.Full = flow.Full
flow_of control.On = flow.Light
flow_of control.Off = flow.NoWait

abbrev pub flow_at : Plan → ℕ → Flow
flow_at plan input = flow_of (input_at plan input).flow

-- how posts into a queue wait (queue.workerFlow): at its full-delay mark, as the messages of a "full" input do, or at a full queue alone
abbrev pub post_flow : Plan → ℕ → Flow
post_flow plan queue = if (parameters_at plan queue).waits then flow.Full else flow.NoWait
