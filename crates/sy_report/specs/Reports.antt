-- What the program writes to, and what it prints of a stop.
use Rattle.std.specs.Prelude.{◌≡◌, ℕ, Bool, true, List, [], ◌∷◌, ◌++◌, ◌⊎◌, Option, codes, flat_map}
use Rattle.std.specs.Fmt.{decimal}
use Rattle.std.specs.Io.KnownBytes.{Appends}
use Rattle.sy_wire.specs.Faults.{frame_fault_words, message_fault_words}
use Rattle.sy_wire.specs.Streams.{Rose}
use Rattle.sy_report.specs.declared.outcome.stop.Stop.{Stop}
use Rattle.sy_report.specs.declared.outcome.stop.Stop.TheVariants.{Frame, Message, NoMemory, ReadFailed, WriteFailed}

-- ---- the two streams

-- what a sink shows between its calls: what was written to it, whether all of that was handed on, and how many
-- calls failed
pub record SinkState : Type 0 where
  pub contents : Option (List ℕ)
  pub is_flushed : Bool
  pub faults : ℕ

abbrev pub seen : {S : Type 0} → (S → Option (List ℕ)) → (S → Bool) → (S → ℕ) → S → SinkState
seen contents is_flushed faults sink = record {
  contents = contents sink;
  is_flushed = is_flushed sink;
  faults = faults sink;
}

-- standard output and standard error
pub record Streams : Type 0 where
  pub output : SinkState
  pub errors : SinkState

-- a prefix of the bytes was written
pub record Torn (old new : Option (List ℕ)) (bytes : List ℕ) : Type 0 where
  pub part : List ℕ
  pub tail : List ℕ
  pub wrote : Appends old new part
  pub front : bytes ≡ part ++ tail

-- the text was written and handed on, and no write failed; or a write or flush failed, and a prefix of it was written
abbrev pub Reported : SinkState → SinkState → List ℕ → Type 0
Reported old new text =
    (Appends old.contents new.contents text × (new.is_flushed ≡ true) × (new.faults ≡ old.faults))
    ⊎ (Torn old.contents new.contents text × Rose old.faults new.faults)

-- The line was written to standard error, as far as that could be done.
abbrev pub HasReported : Streams → Streams → List ℕ → Type 0
HasReported old new line = Reported old.errors new.errors line

-- ---- the line on standard error

-- %d10
abbrev pub line_feed : ℕ
line_feed = 10

-- texts one behind the other
abbrev pub joined : List (List ℕ) → List ℕ
joined texts = flat_map (λ text. text) texts

abbrev pub said : List ℕ → List ℕ
said text = joined (codes "syc: " ∷ text ∷ (line_feed ∷ []) ∷ [])

-- a fault of a frame, counted from 1
abbrev pub in_frame : List ℕ → ℕ → List ℕ
in_frame words frame = joined (codes "syc: " ∷ words ∷ codes " in frame " ∷ decimal frame ∷ (line_feed ∷ []) ∷ [])

-- a fault of the message in a frame, at an offset in it; both numbers in digits
abbrev pub at_offset : List ℕ → List ℕ → List ℕ → List ℕ
at_offset words offset frame =
    joined (codes "syc: " ∷ words ∷ codes " at " ∷ offset ∷ codes " in frame " ∷ frame ∷ (line_feed ∷ []) ∷ [])

-- why a pass stopped
abbrev pub report : Stop → ℕ → List ℕ
report (Frame fault) frame = in_frame (frame_fault_words fault) frame
report (Message fault) frame = at_offset (message_fault_words fault.code) (decimal fault.offset) (decimal frame)
report NoMemory frame = said (codes "no memory")
report ReadFailed frame = said (codes "read failed")
report WriteFailed frame = said (codes "write failed")

-- the exit status of a command that stopped: 2 for faulty input, 3 for no memory, 4 for a failed read or write
abbrev pub status_shown : Stop → ℕ
status_shown (Frame fault) = 2
status_shown (Message fault) = 2
status_shown NoMemory = 3
status_shown ReadFailed = 4
status_shown WriteFailed = 4
