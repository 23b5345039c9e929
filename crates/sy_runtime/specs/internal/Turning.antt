-- What a connection holds after a batch, and once all whole frames were taken.
use Rattle.std.specs.Prelude.{◌≡◌, Bool, List, [], ℕ, Option, None, Some, Result, Ok, Err, false, ⊤}
use Rattle.sy_wire.specs.Frames.{Held, IsOpen}
use Rattle.sy_wire.specs.Streams.{Rose}
use Rattle.sy_runtime.specs.Connections.{Begins, Connects, Counts, Kept, Serves, rest_of}
use Rattle.sy_runtime.specs.internal.Gathering.{IsAtFront}
use Rattle.sy_runtime.specs.internal.Halting.{halted_at}
use Rattle.sy_runtime.specs.declared.connection_end.Finish.{Finish}
use Rattle.sy_runtime.specs.declared.connection_end.Finish.TheVariants as finish
use Rattle.sy_runtime.specs.declared.fault.RunFault.{RunFault}
use Rattle.sy_runtime.specs.declared.fault.RunFault.TheVariants as fault
use Rattle.sy_runtime.specs.declared.untaken.Item.{Item}
use Rattle.sy_runtime.specs.declared.connection.gathering.Gathered.{Gathered}
use Rattle.sy_runtime.specs.declared.connection.gathering.Gathered.TheVariants as gathered
use Rattle.sy_runtime.specs.declared.connection.halt.Halt.{Halt}
use Rattle.sy_runtime.specs.declared.connection.turns.Came.{Came}
use Rattle.sy_runtime.specs.declared.connection.turns.Came.TheVariants as came
use Rattle.sy_runtime.specs.declared.connection.turns.Round.{Round}
use Rattle.sy_runtime.specs.declared.connection.turns.Round.TheVariants as round

-- what comes of a batch, by what ended its gathering
abbrev pub round_of : Gathered → Result ⊤ Halt → Round
round_of stop (Err h) = round.Over (halted_at h stop)
round_of gathered.Open (Ok _) = round.Reads
round_of gathered.Full (Ok _) = round.Again
round_of gathered.NoMemory (Ok _) = round.NoMemory
round_of (gathered.Fault f) (Ok _) = round.Over (Err (fault.Frame f))

-- an answer that asks nothing of the reader: of a frame fault only that it stands in front
abbrev pub IsEarly : Result Finish RunFault → List ℕ → Type 0
IsEarly (Ok finish.Closed) rest = Unit {0}
IsEarly (Ok finish.Ended) rest = ⊥
IsEarly (Err (fault.Frame f)) rest = IsAtFront f rest
IsEarly (Err fault.Read) rest = ⊥
IsEarly (Err fault.Bind) rest = ⊥
IsEarly (Err fault.Hands) rest = Unit {0}
IsEarly (Err fault.NoMemory) rest = Unit {0}
IsEarly (Err fault.TotalsFull) rest = Unit {0}

-- the batch is taken, and what the framer has left follows what was counted
pub record Goes (read : List ℕ) (end : Counts) (kept : Kept) (held : Held) (batch : List Item) : Type 0 where
  pub begins : Begins read end kept held.left
  pub good : held.has_failed ≡ false
  pub empty : batch ≡ []

-- what it holds after a batch, or that it may answer so
abbrev pub RoundIs : Round → List ℕ → Counts → Kept → Held → List Item → Type 0
RoundIs round.Reads read end kept held batch = Goes read end kept held batch × IsOpen held.left
RoundIs round.Again read end kept held batch = Goes read end kept held batch
RoundIs round.NoMemory read end kept held batch = Goes read end kept held batch
RoundIs (round.Over answer) read end kept held batch = Begins read end kept (rest_of batch held.left) × IsEarly answer (rest_of batch held.left)

-- what it holds once all whole frames were taken, or that it may answer so
abbrev pub RoundsAre : Option (Result Finish RunFault) → List ℕ → Counts → Kept → Held → List Item → Type 0
RoundsAre None read end kept held batch = RoundIs round.Reads read end kept held batch
RoundsAre (Some answer) read end kept held batch = RoundIs (round.Over answer) read end kept held batch

-- where it goes on, the framer hasn't failed and the batch is taken; where it is to read, no whole frame is left, and nothing is in the hand
abbrev pub MayGoOn : Round → Held → List Item → Bool → Type 0
MayGoOn round.Reads held batch in_hand = (held.has_failed ≡ false) × (batch ≡ []) × IsOpen held.left × (in_hand ≡ false)
MayGoOn round.Again held batch in_hand = (held.has_failed ≡ false) × (batch ≡ [])
MayGoOn round.NoMemory held batch in_hand = (held.has_failed ≡ false) × (batch ≡ [])
MayGoOn (round.Over answer) held batch in_hand = Unit {0}

-- what came of a turn, by how it ended, if it did
abbrev pub came_from : Option (Result Finish RunFault) → Came
came_from None = came.GoesOn
came_from (Some answer) = came.Over answer

-- what it holds after a turn, or how it ended
abbrev pub CameIs : Came → Option (List ℕ) → Option (List ℕ) → Counts → Kept → Held → List Item → Type 0
CameIs came.GoesOn ahead ahead' end kept held batch = Serves ahead ahead' end kept held.left
CameIs came.NotRead ahead ahead' end kept held batch = Serves ahead ahead' end kept held.left
CameIs (came.Over answer) ahead ahead' end kept held batch =
    (failed failed' : ℕ) → Connects answer end kept (rest_of batch held.left) ahead ahead' failed failed'

-- what may be said of it where it goes on, whatever was read, by whether a message was in the hand
abbrev pub IsOn : Came → Held → List Item → Bool → Bool → Type 0
IsOn came.GoesOn held batch was_in_hand in_hand = MayGoOn round.Reads held batch in_hand
IsOn came.NotRead held batch was_in_hand in_hand = MayGoOn round.Reads held batch false × (in_hand ≡ was_in_hand)
IsOn (came.Over answer) held batch was_in_hand in_hand = Unit {0}

-- how often its source failed, before and after
abbrev pub CameFails : Came → ℕ → ℕ → Type 0
CameFails came.GoesOn failed failed' = failed' ≡ failed
CameFails came.NotRead failed failed' = Rose failed failed'
CameFails (came.Over answer) failed failed' = failed' ≡ failed
