-- What a connection holds between its steps.
use Rattle.std.specs.Prelude.{◌≡◌, ℕ, List, [], ◌∷◌, ◌++◌, length}
use Rattle.sy_chain.specs.Entries.{Entry}
use Rattle.sy_wire.specs.Frames.{IsSize, stream}
use Rattle.sy_wire.specs.Messages.{IsFault, IsMessage}
use Rattle.sy_runtime.specs.Connections.{Counts, KeepsMore, Kept, Sorted}
use Rattle.sy_runtime.specs.declared.untaken.Item.{Item}
use Rattle.sy_runtime.specs.declared.untaken.Item.TheVariants as item
use Rattle.sy_runtime.specs.declared.connection.makings.Renewal.{Renewal}
use Rattle.sy_runtime.specs.declared.connection.makings.Renewal.TheVariants as renewal

-- what stands for a text: an entry of its message, itself where it is no message, or itself where there was no entry for it
abbrev pub IsItem : List ℕ → Item → Type 0
IsItem raw (item.Message node) = IsMessage node.message × (node.message.raw ≡ raw)
IsItem raw (item.Other text fault) = IsFault raw fault.code fault.offset × (text.items ≡ raw)
IsItem raw (item.Unmade text) = text.items ≡ raw

-- what came of a text and an entry; where it is none of its message it leaves the text as it was
abbrev pub RenewIs : Renewal → List ℕ → Entry → List ℕ → Type 0
RenewIs renewal.Message raw node raw' = IsItem raw (item.Message node)
RenewIs (renewal.NoMessage fault) raw node raw' = IsFault raw fault.code fault.offset × (raw' ≡ raw)
RenewIs renewal.Shared raw node raw' = raw' ≡ raw

-- these items stand for the texts of these frames
pub data Stand : List (List ℕ) → List Item → Type 0 where
  nothing : Stand [] []
  one :
      {raws : List (List ℕ)} {items : List Item} (raw : List ℕ) (item : Item)
      → IsItem raw item → IsSize (length raw) → Stand raws items → Stand (raw ∷ raws) (item ∷ items)

-- What was read is the frames that were counted, those of the batch, and then what the framer has left. A frame that is no message stands in the
-- batch at its place: counted before the message in front of it is taken, it would be none of the first frames.
pub record Holds (read : List ℕ) (end : Counts) (kept : Kept) (batch : List Item) (left : List ℕ) : Type 0 where
  pub frames : List (List ℕ)
  pub unread : List (List ℕ)
  pub pending : List (List ℕ)
  pub whole : read ≡ stream frames ++ (stream pending ++ left)
  pub count : length frames ≡ end.frames
  pub none : length unread ≡ end.unread
  pub sorted : Sorted frames unread end.took
  pub keeps : KeepsMore kept.before kept.after unread
  pub stand : Stand pending batch
