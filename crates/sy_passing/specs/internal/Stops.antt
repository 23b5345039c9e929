-- How far a pass has come between its calls, and what they leave when it stops.
use Rattle.std.specs.Prelude.{◌≡◌, ℕ, ◌+◌, Bool, true, false, Result, Ok, Err, List, [], ◌++◌, ◌⊎◌, Option, Some}
use Rattle.sy_wire.specs.Frames.{Held, IsOpen}
use Rattle.sy_wire.specs.Streams.{Rose}
use Rattle.sy_wire.specs.declared.framer.FrameFault.TheVariants.{BadLength, TooLong}
use Rattle.sy_board.specs.relay.Boards.{BoardState}
use Rattle.sy_report.specs.declared.outcome.stop.Stop.{Stop}
use Rattle.sy_report.specs.declared.outcome.stop.Stop.TheVariants.{Frame, Message, NoMemory, ReadFailed, WriteFailed}
use Rattle.sy_passing.specs.Ways.{idle}
use Rattle.sy_passing.specs.Pass.{AreReadsUsed, BeginsWith, Counts, NoneFailed, PartPassed, Passed}
use Rattle.sy_passing.specs.Stops.{IsIdle}

-- the messages that the bytes begin with were passed, and the board took each of them
pub record Advances (bytes : List ℕ) (old new : Option (List ℕ)) (rest : List ℕ) (before after : ℕ) : Type 0 where
  pub n : ℕ
  pub passed : Passed bytes old new rest n
  pub taken : after ≡ before + n

-- the same up to a fault
pub record StopsAt (stop : Stop) (bytes : List ℕ) (old new : Option (List ℕ)) (before after : ℕ) : Type 0 where
  pub rest : List ℕ
  pub advances : Advances bytes old new rest before after
  pub fault : BeginsWith stop rest

-- some messages that the bytes begin with were passed
abbrev pub PassedSome : List ℕ → Option (List ℕ) → Option (List ℕ) → Type 0
PassedSome bytes old new = (rest : List ℕ) × (n : ℕ) × Passed bytes old new rest n

-- what stops a pass over bytes of which more may come
abbrev pub DrainFails : Stop → List ℕ → Option (List ℕ) → Option (List ℕ) → ℕ → ℕ → Type 0
DrainFails (Frame BadLength) bytes old new before after = StopsAt (Frame BadLength) bytes old new before after
DrainFails (Frame TooLong) bytes old new before after = StopsAt (Frame TooLong) bytes old new before after
DrainFails (Frame _) bytes old new before after = ⊥
DrainFails (Message fault) bytes old new before after = StopsAt (Message fault) bytes old new before after
DrainFails NoMemory bytes old new before after = PassedSome bytes old new
DrainFails ReadFailed bytes old new before after = ⊥
DrainFails WriteFailed bytes old new before after = PartPassed bytes old new

-- what stops a pass over a whole input
abbrev pub StopIs : Stop → List ℕ → Option (List ℕ) → Option (List ℕ) → ℕ → ℕ → Type 0
StopIs (Frame fault) input old new before after = StopsAt (Frame fault) input old new before after
StopIs (Message fault) input old new before after = StopsAt (Message fault) input old new before after
StopIs NoMemory input old new before after = PassedSome input old new
StopIs ReadFailed input old new before after = PartPassed input old new
StopIs WriteFailed input old new before after = PartPassed input old new

-- between two reads
pub record IsBetween (board : BoardState) (framer : Held) : Type 0 where
  pub idle : IsIdle board
  pub good : framer.has_failed ≡ false
  pub is_open : IsOpen framer.left

-- one turn over what is held and ahead
abbrev pub TurnIs : Result Bool Stop → List ℕ → List ℕ → Option (List ℕ) → Option (List ℕ) → Option (List ℕ) → ℕ → ℕ → Type 0
TurnIs (Ok true) bytes left ahead old new before after = (next : List ℕ) × (ahead ≡ Some next) × Advances bytes old new (left ++ next) before after
TurnIs (Ok false) bytes left ahead old new before after = Advances bytes old new [] before after
TurnIs (Err stop) bytes left ahead old new before after = StopIs stop bytes old new before after

-- a failed read has its cause; where memory runs out before it, none failed; and nothing else stops a read
abbrev pub ReadCause : Stop → ℕ → ℕ → Type 0
ReadCause ReadFailed before after = Rose before after
ReadCause NoMemory before after = after ≡ before
ReadCause _ before after = ⊥

-- a failed write has its cause, and at any other stop none failed
abbrev pub WriteCause : Stop → ℕ → ℕ → Type 0
WriteCause WriteFailed before after = Rose before after
WriteCause _ before after = after ≡ before

-- a failed read or write has its cause, and at any other stop none failed
abbrev pub FailCause : Stop → Counts → Counts → Type 0
FailCause ReadFailed before after = Rose before.reads_failed after.reads_failed
FailCause WriteFailed before after = Rose before.writes_failed after.writes_failed
FailCause _ before after = NoneFailed before after

-- the same where the reads may be used up too
abbrev pub PassCause : Stop → Counts → Counts → Type 0
PassCause ReadFailed before after = Rose before.reads_failed after.reads_failed ⊎ AreReadsUsed before.reads after.reads
PassCause WriteFailed before after = Rose before.writes_failed after.writes_failed
PassCause _ before after = NoneFailed before after

-- the same with the number of the frame in which it stopped, counted from 1
pub record StopsIn (stop : Stop) (frame : ℕ) (input : List ℕ) (old new : Option (List ℕ)) : Type 0 where
  pub taken : ℕ
  pub stops : StopIs stop input old new 0 taken
  pub number : frame ≡ taken + 1
