-- What a connection reads, what it counts of that, and how it ends.
use Rattle.std.specs.Prelude.{◌≡◌, ◌≢◌, ◌≤◌, ◌^◌, ◌⊎◌, ℕ, ◌+◌, Bool, List, [], ◌∷◌, ◌++◌, length, map, Option, None, Some, Result, Ok, Err}
use Rattle.std.specs.Io.KnownBytes.{Consumes, IsAtEnd}
use Rattle.sy_wire.specs.Frames.{IsBadLength, IsOpen, IsSize, IsTooLong, stream}
use Rattle.sy_wire.specs.Messages.{IsFault, IsMessage, Said}
use Rattle.sy_wire.specs.Streams.{Rose}
use Rattle.sy_wire.specs.declared.message.MsgCode.{MsgCode}
use Rattle.sy_wire.specs.declared.framer.FrameFault.{FrameFault}
use Rattle.sy_wire.specs.declared.framer.FrameFault.TheVariants.{BadLength, TooLong, Truncated, NoMemory, Failed}
use Rattle.sy_runtime.specs.declared.connection_end.Finish.{Finish}
use Rattle.sy_runtime.specs.declared.connection_end.Finish.TheVariants as finish
use Rattle.sy_runtime.specs.declared.untaken.Item.{Item}
use Rattle.sy_runtime.specs.declared.untaken.Item.TheVariants as item
use Rattle.sy_runtime.specs.declared.fault.RunFault.{RunFault}
use Rattle.sy_runtime.specs.declared.fault.RunFault.TheVariants as fault

-- What a connection counts: the frames whose message was taken or that carry none, those of them that carry none, and the messages taken.
pub record Counts : Type 0 where
  pub frames : ℕ
  pub unread : ℕ
  pub took : ℕ

-- what a connection counts before its first frame
abbrev pub nothing_counted : Counts
nothing_counted = record { frames = 0; unread = 0; took = 0 }

-- what two connections counted together
abbrev pub counted_both : Counts → Counts → Counts
counted_both one other = record {
  frames = one.frames + other.frames;
  unread = one.unread + other.unread;
  took = one.took + other.took;
}

-- so many frames, none of which carries a message
abbrev pub all_unread : ℕ → Counts
all_unread count = record { frames = count; unread = count; took = 0 }

-- one of these counts is above 2^64 - 1
abbrev pub Overflows : Counts → Type 0
Overflows end = (2 ^ 64 ≤ end.frames) ⊎ (2 ^ 64 ≤ end.unread) ⊎ (2 ^ 64 ≤ end.took)

-- the text of a message (RFC 5424, section 6)
abbrev pub IsText : List ℕ → Type 0
IsText raw = (said : Said) × IsMessage said × (said.raw ≡ raw)

-- the text of none: some part of it is not in its grammar
abbrev pub IsNoText : List ℕ → Type 0
IsNoText raw = (code : MsgCode) × (offset : ℕ) × IsFault raw code offset

-- Of the texts that these frames carry these are no message's, and so many are one's.
pub data Sorted : List (List ℕ) → List (List ℕ) → ℕ → Type 0 where
  nothing : Sorted [] [] 0
  unread :
      {later unread : List (List ℕ)} {took : ℕ} (raw : List ℕ)
      → IsNoText raw → IsSize (length raw) → Sorted later unread took → Sorted (raw ∷ later) (raw ∷ unread) took
  message :
      {later unread : List (List ℕ)} {took : ℕ} (raw : List ℕ)
      → IsText raw → IsSize (length raw) → Sorted later unread took → Sorted (raw ∷ later) unread (took + 1)

-- what keeps the texts of frames that carry no message had kept first, and these texts more now, where that is known
abbrev pub KeepsMore : Option (List (List ℕ)) → Option (List (List ℕ)) → List (List ℕ) → Type 0
KeepsMore None kept more = Unit {0}
KeepsMore (Some texts) None more = ⊥
KeepsMore (Some texts) (Some kept) more = kept ≡ texts ++ more

-- what keeps them had kept that before, and this after
pub record Kept : Type 0 where
  pub before : Option (List (List ℕ))
  pub after : Option (List (List ℕ))

abbrev pub since : Option (List (List ℕ)) → Option (List (List ℕ)) → Kept
since before after = record { before = before; after = after }

-- The bytes begin with the frames that were counted, each of which is no message and was kept, or was taken, and go on with the rest.
pub record Begins (bytes : List ℕ) (end : Counts) (kept : Kept) (rest : List ℕ) : Type 0 where
  pub frames : List (List ℕ)
  pub unread : List (List ℕ)
  pub whole : bytes ≡ stream frames ++ rest
  pub count : length frames ≡ end.frames
  pub none : length unread ≡ end.unread
  pub sorted : Sorted frames unread end.took
  pub keeps : KeepsMore kept.before kept.after unread

-- bytes go on with a fault of a frame, where nothing is known to come behind them; 14 and 15 are never one
abbrev pub GoesOnWith : FrameFault → List ℕ → Option (List ℕ) → Type 0
GoesOnWith BadLength rest ahead = IsBadLength rest
GoesOnWith TooLong rest ahead = IsTooLong rest
GoesOnWith Truncated rest ahead = (rest ≢ []) × IsOpen rest × IsAtEnd ahead
GoesOnWith NoMemory rest ahead = ⊥
GoesOnWith Failed rest ahead = ⊥

-- the text that a frame carried
abbrev pub text_of : Item → List ℕ
text_of (item.Message node) = node.message.raw
text_of (item.Other text fault) = text.items
text_of (item.Unmade text) = text.items

-- what a connection read and didn't take: the frames that it had gathered, and then what its framer has left
abbrev pub rest_of : List Item → List ℕ → List ℕ
rest_of items left = stream (map text_of items) ++ left

-- How a connection ended, by the rest of what it read, what its reader has left, and how many reads had failed before and after. Where the relay
-- closed, memory ran out, no hand was free or a total is full, nothing more is said of the rest.
abbrev pub EndsWith : Result Finish RunFault → List ℕ → Option (List ℕ) → ℕ → ℕ → Type 0
EndsWith (Ok finish.Ended) rest ahead failed failed' = (rest ≡ []) × IsAtEnd ahead
EndsWith (Ok finish.Closed) rest ahead failed failed' = Unit {0}
EndsWith (Err fault.Read) rest ahead failed failed' = Rose failed failed'
EndsWith (Err fault.Bind) rest ahead failed failed' = ⊥
EndsWith (Err fault.Hands) rest ahead failed failed' = Unit {0}
EndsWith (Err fault.NoMemory) rest ahead failed failed' = Unit {0}
EndsWith (Err (fault.Frame why)) rest ahead failed failed' = GoesOnWith why rest ahead
EndsWith (Err fault.TotalsFull) rest ahead failed failed' = Unit {0}

-- What a connection read is the frames that it counted, of which those that carry no message were kept, and then this rest; and it ended so.
pub record Connects (answer : Result Finish RunFault) (end : Counts) (kept : Kept) (rest : List ℕ) (ahead ahead' : Option (List ℕ))
    (failed failed' : ℕ) : Type 0 where
  pub read : List ℕ
  pub consumed : Consumes ahead ahead' read
  pub begins : Begins read end kept rest
  pub ends : EndsWith answer rest ahead' failed failed'

-- What a connection is between two reads: what it counted, and the bytes of the frame that is under way.
pub record Between : Type 0 where
  pub end : Counts
  pub left : List ℕ

-- What is known of a reader: the number of its input, and whether a message is in its hand.
pub record ReaderState : Type 0 where
  pub input : ℕ
  pub has_message : Bool

-- What was read of what its source gives is the frames that were counted, of which those that carry no message were kept, and then what is left.
pub record Serves (ahead ahead' : Option (List ℕ)) (end : Counts) (kept : Kept) (left : List ℕ) : Type 0 where
  pub read : List ℕ
  pub consumed : Consumes ahead ahead' read
  pub begins : Begins read end kept left
