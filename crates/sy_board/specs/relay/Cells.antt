-- What a relay holds: entries, each at one place.
use Rattle.std.specs.Prelude.{◌≡◌, ℕ, ◌+◌, ◌*◌, List, [], ◌∷◌, ◌++◌, Option, Some, None, length, replicate, slice_index_or, slice_set}
use Rattle.sy_chain.specs.Entries.{Entry}
use Rattle.sy_rules.specs.PlanValue.{Plan}

-- A place that holds entries: one of the 64 hands of an input, a queue, or the batch of a worker.
pub data Cell : Type 0 where
  Hand : (number : ℕ) → Cell
  Queue : (number : ℕ) → Cell
  Worker : (number : ℕ) → Cell

-- What a relay holds, by numbers. A hand has one entry or none; of a worker's entries the first is worked on, and `failures` counts how often
-- its present occurrence has failed.
pub record RelayState : Type 0 where
  pub hands : List (List Entry)
  pub queues : List (List Entry)
  pub workers : List (List Entry)
  pub failures : List ℕ

-- the entries of some places, one place after the other
abbrev pub all_of : List (List Entry) → List Entry
all_of [] = []
all_of (entries ∷ others) = entries ++ all_of others

-- the entries at a place, in order
abbrev pub at : RelayState → Cell → List Entry
at part (Cell.Hand k) = slice_index_or part.hands k []
at part (Cell.Queue k) = slice_index_or part.queues k []
at part (Cell.Worker k) = slice_index_or part.workers k []

-- the same, but these entries at that place
abbrev pub set_cell : RelayState → Cell → List Entry → RelayState
set_cell part (Cell.Hand k) entries = record part { hands = slice_set part.hands k entries }
set_cell part (Cell.Queue k) entries = record part { queues = slice_set part.queues k entries }
set_cell part (Cell.Worker k) entries = record part { workers = slice_set part.workers k entries }

abbrev pub failures_at : RelayState → ℕ → ℕ
failures_at part worker = slice_index_or part.failures worker 0

-- the list that the first of some entries follows
abbrev pub first_list : List Entry → Option ℕ
first_list [] = None
first_list (e ∷ later) = Some e.list

-- the list that a worker's first entry follows
abbrev pub followed_at : RelayState → ℕ → Option ℕ
followed_at part worker = first_list (at part (Cell.Worker worker))

abbrev pub set_failures : RelayState → ℕ → ℕ → RelayState
set_failures part worker count = record part { failures = slice_set part.failures worker count }

-- a hand of an input
abbrev pub hand : ℕ → ℕ → Cell
hand input number = Cell.Hand (64 * input + number)

-- How many entries wait in a queue; that those in workers' batches don't count is this profile's own.
abbrev pub waiting : RelayState → ℕ → ℕ
waiting part queue = length (at part (Cell.Queue queue))

-- All that a relay holds: what is in hands, then what waits in queues, then what workers have, each entry with what is still due for it.
abbrev pub held : RelayState → List Entry
held part = all_of part.hands ++ all_of part.queues ++ all_of part.workers

-- The relay has the places of its plan.
pub record IsShaped (plan : Plan) (state : RelayState) : Type 0 where
  pub hands : length state.hands ≡ 64 * length plan.inputs
  pub queues : length state.queues ≡ length plan.queues
  pub workers : length state.workers ≡ length plan.workers
  pub failures : length state.failures ≡ length plan.workers

-- before the first message
abbrev pub opening : Plan → RelayState
opening plan = record {
  hands = replicate (64 * length plan.inputs) [];
  queues = replicate (length plan.queues) [];
  workers = replicate (length plan.workers) [];
  failures = replicate (length plan.workers) 0;
}
