-- What a pass leaves when it stops.
use Rattle.std.specs.Prelude.{◌≡◌, ℕ, List, Option}
use Rattle.std.specs.Io.KnownBytes.{Keeps}
use Rattle.sy_wire.specs.Messages.{IsFault, IsMessage, Said}
use Rattle.sy_wire.specs.Streams.{Rose}
use Rattle.sy_chain.specs.Entries.{Entry}
use Rattle.sy_board.specs.relay.Boards.{BoardState}
use Rattle.sy_report.specs.Reports.{Torn}
use Rattle.sy_report.specs.declared.outcome.stop.Stop.{Stop}
use Rattle.sy_report.specs.declared.outcome.stop.Stop.TheVariants.{Message, NoMemory}
use Rattle.sy_passing.specs.Ways.{entry_of, idle, ready}
use Rattle.sy_passing.specs.declared.pass.one_message.CarryFault.{CarryFault}
use Rattle.sy_passing.specs.declared.pass.one_message.CarryFault.TheVariants.{NoMemory as OutOfRoom, WriteFailed as IsTorn}

-- the entry of the message with this text
pub record Carries (node : Entry) (raw : List ℕ) : Type 0 where
  pub is_message : IsMessage node.message
  pub text : node.message.raw ≡ raw
  pub entry : node ≡ entry_of node.message

-- why there is no entry of a text: memory ran out, or the text has this fault
abbrev pub EntryFails : Stop → List ℕ → Type 0
EntryFails (Message fault) raw = IsFault raw fault.code fault.offset
EntryFails NoMemory raw = Unit {0}
EntryFails _ raw = ⊥

-- no message is on the board where the next one comes
abbrev pub IsIdle : BoardState → Type 0
IsIdle b = b ≡ idle b.totals.taken

-- the message with this text waits to be written
pub record IsReady (b : BoardState) (raw : List ℕ) : Type 0 where
  pub before : ℕ
  pub message : Said
  pub board : b ≡ ready before message
  pub text : message.raw ≡ raw

-- a message's line was not, or not wholly, written
abbrev pub CarryFails : CarryFault → Option (List ℕ) → Option (List ℕ) → List ℕ → Type 0
CarryFails OutOfRoom old new bytes = Keeps old new
CarryFails IsTorn old new bytes = Torn old new bytes

-- a torn line has its cause, and nothing failed where memory ran out
abbrev pub CarryCause : CarryFault → ℕ → ℕ → Type 0
CarryCause OutOfRoom before after = after ≡ before
CarryCause IsTorn before after = Rose before after
