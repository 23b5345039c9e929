-- What the steps of a replay make of a relay's part.
use Rattle.std.specs.Prelude.{◌≡◌, ℕ, List, [], ◌∷◌, ◌++◌, map, slice_set}
use Rattle.std.specs.Global.{Global}
use Rattle.std_alloc.specs.declared.vec.deque.VecDeque.{VecDeque}
use Rattle.sy_wire.specs.Messages.{Said}
use Rattle.sy_chain.specs.Entries.{Entry}
use Rattle.sy_board.specs.relay.Boards.{BoardState}
use Rattle.sy_board.specs.relay.Steps.{Event, Out}
use Rattle.sy_site.specs.machine.States.{Loss}
use Rattle.sy_replay.specs.declared.event.Illegal.{Illegal}
use Rattle.sy_replay.specs.declared.event.Illegal.TheVariants as illegal
use Rattle.sy_replay.specs.internal.Events.{Goes, IsIllegal}
use Rattle.sy_replay.specs.Parts.{tags_at, PartState}

-- What a step lets out comes to the ends of the relay's links and files,
abbrev pub passed_by : List Out → List (List ℕ) → List (List ℕ)
passed_by [] passed = passed
passed_by (Out.Passed action e ∷ outs) passed = passed_by outs (slice_set passed action (tags_at passed action ++ e.tag ∷ []))
passed_by (Out.Lost cause e ∷ outs) passed = passed_by outs passed

-- and to the losses.
abbrev pub lost_by : ℕ → List Out → List Loss
lost_by relay [] = []
lost_by relay (Out.Passed action e ∷ outs) = lost_by relay outs
lost_by relay (Out.Lost cause e ∷ outs) = record { copy = e.tag; relay = relay; list = e.list; cause = cause } ∷ lost_by relay outs

-- copies by number, in a queue
abbrev pub Tags : Type 0
Tags = VecDeque ℕ Global

abbrev pub items_of : List Tags → List (List ℕ)
items_of queues = map (λ (q : Tags). q.items) queues

-- The relay of this number makes the step: its links and files, and the losses, are longer by what it lets out.
pub record Makes (relay : ℕ) (old : PartState) (before : List Loss) (event : Event) (new : PartState) (after : List Loss) : Type 0 where
  pub outs : List Out
  pub goes : Goes old.board event new.board outs
  pub passed : new.passed ≡ passed_by outs old.passed
  pub losses : after ≡ before ++ lost_by relay outs

abbrev pub part : BoardState → List (List ℕ) → PartState
part board passed = record { board = board; passed = passed }

-- the same where nothing comes to links and files
abbrev pub MakesInside : ℕ → BoardState → List Loss → Event → BoardState → List Loss → Type 0
MakesInside relay old before event new after = (passed : List (List ℕ)) → Makes relay (part old passed) before event (part new passed) after

-- ---- Take

-- The relay takes an entry of this message and with this tag.
abbrev pub TakesMessage : ℕ → BoardState → List Loss → ℕ → ℕ → Said → ℕ → BoardState → List Loss → Type 0
TakesMessage relay old before input hand message tag new after =
    (node : Entry) × (node.message ≡ message) × (node.tag ≡ tag) × MakesInside relay old before (Event.Take input hand node) new after

-- Why it doesn't: no such entry is taken; or one is, and a total would pass its limit.
abbrev pub IsNoTake : Illegal → BoardState → ℕ → ℕ → Said → ℕ → Type 0
IsNoTake illegal.NotAStep old input hand message tag =
    (node : Entry) → node.message ≡ message → node.tag ≡ tag → IsIllegal illegal.NotAStep old (Event.Take input hand node)
IsNoTake illegal.NoMemory old input hand message tag = Unit {0}
IsNoTake illegal.TotalsFull old input hand message tag =
    (node : Entry) × (node.message ≡ message) × (node.tag ≡ tag) × IsIllegal illegal.TotalsFull old (Event.Take input hand node)

-- the same of a relay with its lists
abbrev pub TakesMessageAt : ℕ → PartState → List Loss → ℕ → ℕ → Said → ℕ → PartState → List Loss → Type 0
TakesMessageAt relay old before input hand message tag new after =
    (node : Entry) × (node.message ≡ message) × (node.tag ≡ tag) × Makes relay old before (Event.Take input hand node) new after
