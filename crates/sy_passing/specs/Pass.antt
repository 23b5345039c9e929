-- What a pass reads and writes.
use Rattle.std.specs.Prelude.{◌≡◌, ◌≢◌, ℕ, ◌+◌, List, [], ◌∷◌, ◌++◌, ◌⊎◌, length, Option}
use Rattle.std.specs.List.{AllByRecursion, flat_map}
use Rattle.std.specs.Io.KnownBytes.{Appends}
use Rattle.sy_wire.specs.Frames.{IsBadLength, IsOpen, IsSize, IsTooLong, frame, stream}
use Rattle.sy_wire.specs.Messages.{IsFault, IsMessage, Said}
use Rattle.sy_wire.specs.Streams.{Rose, count_after}
use Rattle.sy_wire.specs.declared.framer.FrameFault.TheVariants.{BadLength, TooLong, Truncated, NoMemory as OutOfMemory, Failed}
use Rattle.sy_wire.specs.declared.message.MsgFault.{MsgFault}
use Rattle.sy_report.specs.Reports.{Streams, HasReported, line_feed, report}
use Rattle.sy_report.specs.declared.outcome.stop.Stop.{Stop}
use Rattle.sy_report.specs.declared.outcome.stop.Stop.TheVariants.{Frame, Message, NoMemory, ReadFailed, WriteFailed}

-- a message's line: its bytes and a line feed
abbrev pub line : List ℕ → List ℕ
line raw = raw ++ line_feed ∷ []

-- the lines of the messages, one after another
abbrev pub lines : List (List ℕ) → List ℕ
lines messages = flat_map line messages

-- bytes that a frame can carry and that are a message
pub record IsFramed (raw : List ℕ) : Type 0 where
  pub said : Said
  pub is_message : IsMessage said
  pub text : said.raw ≡ raw
  pub size : IsSize (length raw)

-- The bytes are the frames of n messages and then the rest, and the lines of these messages were written.
pub record Passed (bytes : List ℕ) (old new : Option (List ℕ)) (rest : List ℕ) (n : ℕ) : Type 0 where
  pub messages : List (List ℕ)
  pub count : length messages ≡ n
  pub each : AllByRecursion IsFramed messages
  pub whole : bytes ≡ stream messages ++ rest
  pub wrote : Appends old new (lines messages)

-- a frame stands at the front whose bytes are no message, with this fault
pub record CarriesFault (fault : MsgFault) (rest : List ℕ) : Type 0 where
  pub raw : List ℕ
  pub more : List ℕ
  pub size : IsSize (length raw)
  pub front : rest ≡ frame raw ++ more
  pub fault_is : IsFault raw fault.code fault.offset

-- The fault that the rest begins with, where the rest is all that the input still has: it is no frame, a
-- frame that carries no message, or ends within a frame.
abbrev pub BeginsWith : Stop → List ℕ → Type 0
BeginsWith (Frame BadLength) rest = IsBadLength rest
BeginsWith (Frame TooLong) rest = IsTooLong rest
BeginsWith (Frame Truncated) rest = (rest ≢ []) × IsOpen rest
BeginsWith (Frame OutOfMemory) rest = ⊥
BeginsWith (Frame Failed) rest = ⊥
BeginsWith (Message fault) rest = CarriesFault fault rest
BeginsWith NoMemory rest = ⊥
BeginsWith ReadFailed rest = ⊥
BeginsWith WriteFailed rest = ⊥

-- a part of the line of the message whose frame stands at the front, or nothing
abbrev pub IsPart : List ℕ → List ℕ → Type 0
IsPart part rest = (part ≡ []) ⊎ ((raw more tail : List ℕ) × IsFramed raw × (rest ≡ frame raw ++ more) × (line raw ≡ part ++ tail))

-- the lines of messages that the bytes begin with were written, and then at most a part of one more
pub record PartPassed (bytes : List ℕ) (old new : Option (List ℕ)) : Type 0 where
  pub messages : List (List ℕ)
  pub rest : List ℕ
  pub part : List ℕ
  pub each : AllByRecursion IsFramed messages
  pub whole : bytes ≡ stream messages ++ rest
  pub is_part : IsPart part rest
  pub wrote : Appends old new (lines messages ++ part)

-- The four ends of a pass over an input. `IsReported` says what was printed on standard error.

-- the whole input is frames of messages, and all their lines were written
abbrev pub EndsWhole : List ℕ → Option (List ℕ) → Option (List ℕ) → Type 0
EndsWhole input old new = (n : ℕ) × Passed input old new [] n

-- the input reads as messages up to a fault, their lines were written, and the fault with the number of its frame
-- was reported
pub record EndsAtFault (input : List ℕ) (old new : Option (List ℕ)) (IsReported : List ℕ → Type 0) : Type 0 where
  pub stop : Stop
  pub rest : List ℕ
  pub n : ℕ
  pub passed : Passed input old new rest n
  pub fault : BeginsWith stop rest
  pub reported : IsReported (report stop (n + 1))

-- the lines of messages that the input begins with were written, and that memory ran out was reported
pub record EndsForMemory (input : List ℕ) (old new : Option (List ℕ)) (IsReported : List ℕ → Type 0) : Type 0 where
  pub rest : List ℕ
  pub n : ℕ
  pub passed : Passed input old new rest n
  pub reported : IsReported (report NoMemory 0)

-- the same and at most a part of one more line, and that a read or a write failed was reported
pub record EndsFailing (input : List ℕ) (old new : Option (List ℕ)) (IsReported : List ℕ → Type 0) : Type 0 where
  pub part : PartPassed input old new
  pub reported : IsReported (report ReadFailed 0) ⊎ IsReported (report WriteFailed 0)

-- the exit status of a pass over an input
abbrev pub EndsPass : ℕ → List ℕ → Option (List ℕ) → Option (List ℕ) → (List ℕ → Type 0) → Type 0
EndsPass status input old new IsReported =
    ((status ≡ 0) × EndsWhole input old new)
    ⊎ ((status ≡ 2) × EndsAtFault input old new IsReported)
    ⊎ ((status ≡ 3) × EndsForMemory input old new IsReported)
    ⊎ ((status ≡ 4) × EndsFailing input old new IsReported)

-- the same of the two streams
abbrev pub PassIs : ℕ → List ℕ → Streams → Streams → Type 0
PassIs status input old new = EndsPass status input old.output.contents new.output.contents (HasReported old new)

-- how many reads a pass makes at most
abbrev pub READS : ℕ
READS = 1000000000000

-- all the reads that a pass may make were made
abbrev pub AreReadsUsed : ℕ → ℕ → Type 0
AreReadsUsed before after = after ≡ count_after before READS

-- how many reads failed, how many were made, and how many writes and flushes failed
pub record Counts : Type 0 where
  pub reads_failed : ℕ
  pub reads : ℕ
  pub writes_failed : ℕ

-- the same where standard output is what is written to
abbrev pub counted : {R : Type 0} → (R → ℕ) → (R → ℕ) → R → Streams → Counts
counted faults calls reader out = record {
  reads_failed = faults reader;
  reads = calls reader;
  writes_failed = out.output.faults;
}

-- no read, write or flush failed, as the counts of those that did tell
abbrev pub NoneFailed : Counts → Counts → Type 0
NoneFailed before after = (after.reads_failed ≡ before.reads_failed) × (after.writes_failed ≡ before.writes_failed)

-- why a pass may answer that a read or a write failed, with what it says then: a read did, or the reads are used up;
-- or a write did
abbrev pub HasFailed : (List ℕ → Type 0) → Counts → Counts → Type 0
HasFailed IsReported before after =
    (IsReported (report ReadFailed 0) × (Rose before.reads_failed after.reads_failed ⊎ AreReadsUsed before.reads after.reads))
    ⊎ (IsReported (report WriteFailed 0) × Rose before.writes_failed after.writes_failed)

-- the exit statuses of a pass
abbrev pub IsStatus : ℕ → Type 0
IsStatus status = (status ≡ 0) ⊎ (status ≡ 2) ⊎ (status ≡ 3) ⊎ (status ≡ 4)
