-- What each step brings into a relay and takes out of it: said once more of the steps as a whole, for the laws that they keep.
use Rattle.std.specs.Prelude.{◌≡◌, ℕ, ◌+◌, ◌==◌, if◌then◌else◌, List, [], ◌∷◌, ◌++◌, Option, Some, None, min, not}
use Rattle.sy_chain.specs.Entries.{Entry}
use Rattle.sy_marks.specs.Marks.{finished_of}
use Rattle.sy_rules.specs.declared.lists.occurrence.Occurrence.{Occurrence}
use Rattle.sy_rules.specs.Whole.{queue_for}
use Rattle.sy_rules.specs.PlanValue.{Plan}
use Rattle.sy_board.specs.relay.Cells.{Cell, RelayState, at, failures_at, waiting}
use Rattle.sy_board.specs.relay.Plans.{marks_at, parameters_at, queue_of_input, queue_of_worker}
use Rattle.sy_board.specs.relay.Steps.{Event, Job, Out, Step, if_so, still}
use Rattle.sy_board.specs.relay.Totals.{total}

-- ---- entries

-- what is left of a job's entry
abbrev pub rest : (plan : Plan) (old : RelayState) (w : ℕ) (is : Occurrence) → Job plan old w is → List Entry
rest plan old w is job = still job.entry job.left []

-- The entries that a step brings: one that came in, one that a post made, and what is left of one that a worker went on with.
abbrev pub came : (plan : Plan) (old : RelayState) (event : Event) (new : RelayState) (outs : List Out) → Step plan old event new outs → List Entry
came plan old (Event.Take input h node) new outs step = node ∷ []
came plan old (Event.Enter input h) new outs step = []
came plan old (Event.Expire input h) new outs step = []
came plan old (Event.Grab w) new outs step = []
came plan old (Event.Done w) new outs step = rest plan old w _ step.2.job
came plan old (Event.Fail w took) new outs step = []
came plan old (Event.GiveUp w took) new outs step = rest plan old w _ step.2.job
came plan old (Event.Post w) new outs step = if_so (not step.2) step.1 ++ rest plan old w _ step.3.job
came plan old (Event.PostLost w no_memory) new outs step = rest plan old w _ step.2.job

-- The entries that a step takes: those that are lost on the way to a worker, or taken there with nothing due; and one that a worker goes on with.
abbrev pub went : (plan : Plan) (old : RelayState) (event : Event) (new : RelayState) (outs : List Out) → Step plan old event new outs → List Entry
went plan old (Event.Take input h node) new outs step = if_so step.0 node
went plan old (Event.Enter input h) new outs step = []
went plan old (Event.Expire input h) new outs step = step.0 ∷ []
went plan old (Event.Grab w) new outs step = step.0 ++ finished_of (marks_at plan (queue_of_worker plan w))
    (parameters_at plan (queue_of_worker plan w)).batch (at old (Cell.Queue (queue_of_worker plan w)))
went plan old (Event.Done w) new outs step = step.1 ∷ []
went plan old (Event.Fail w took) new outs step = []
went plan old (Event.GiveUp w took) new outs step = step.1 ∷ []
went plan old (Event.Post w) new outs step = step.3.job.entry ∷ []
went plan old (Event.PostLost w no_memory) new outs step = step.1 ∷ []

-- a sum over all entries that a relay holds
abbrev pub over : (Entry → ℕ) → RelayState → ℕ
over f state = total (total f) state.hands + total (total f) state.queues + total (total f) state.workers

-- ---- lengths

-- how many entries a step puts into a queue,
abbrev pub added : (plan : Plan) (old : RelayState) (event : Event) (new : RelayState) (outs : List Out) → Step plan old event new outs → ℕ → ℕ
added plan old (Event.Enter input h) new outs step queue = if queue_of_input plan input == queue then 1 else 0
added plan old (Event.Post w) new outs step queue =
    if step.2 then 0 else if queue_for plan step.0 == queue then 1 else 0
added plan old _ new outs step queue = 0

-- and takes from it
abbrev pub removed : Plan → RelayState → Event → ℕ → ℕ
removed plan old (Event.Grab w) queue =
    if queue_of_worker plan w == queue then min (parameters_at plan queue).batch (waiting old queue) else 0
removed plan old _ queue = 0

-- ---- workers

-- the worker that a step is about, where it is about one
abbrev pub worker_of : Event → Option ℕ
worker_of (Event.Take input h node) = None
worker_of (Event.Enter input h) = None
worker_of (Event.Expire input h) = None
worker_of (Event.Grab w) = Some w
worker_of (Event.Done w) = Some w
worker_of (Event.Fail w took) = Some w
worker_of (Event.GiveUp w took) = Some w
worker_of (Event.Post w) = Some w
worker_of (Event.PostLost w no_memory) = Some w

-- the worker has the same entries and as many failures
pub record IsLeftAlone (worker : ℕ) (old new : RelayState) : Type 0 where
  pub entries : at new (Cell.Worker worker) ≡ at old (Cell.Worker worker)
  pub failures : failures_at new worker ≡ failures_at old worker
