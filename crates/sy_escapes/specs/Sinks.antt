-- What a sink of lines with escapes writes: whole lines alone, in the order of the messages, but for the end of the last one where a write failed in it.
-- What is missing of that one is written before any other.
use Rattle.std.specs.Prelude.{◌≡◌, ℕ, ◌+◌, ◌<◌, Bool, ◌&&◌, if◌then◌else◌, List, [], ◌∷◌, ◌++◌, drop, length, nat_lt, take, Option, Some, None}
use Rattle.std.specs.Io.KnownBytes.{Appends}
use Rattle.std.specs.Str.{bytes_eq}
use Rattle.sy_actions.specs.declared.device.DeviceFault.{DeviceFault}
use Rattle.sy_actions.specs.declared.device.DeviceFault.TheVariants.{Write}
use Rattle.sy_wire.specs.Messages.{Said}
use Rattle.sy_wire.specs.Streams.{with_held}
use Rattle.sy_escapes.specs.Escapes.{line_of, lines_of}
use Rattle.sy_escapes.specs.declared.batch.Batch.{Batch}

-- what is still to be written of lines that were begun
abbrev pub rest : Batch → List ℕ
rest batch = drop batch.out batch.text.items

-- the last line that was begun
abbrev pub last_line : Batch → List ℕ
last_line batch = drop batch.start batch.text.items

-- something of the message's line is still to be written
abbrev pub is_begun : Batch → Said → Bool
is_begun batch message = nat_lt batch.out (length batch.text.items) && bytes_eq (last_line batch) (line_of message)

-- how many of the first messages have such a line: one or none
abbrev pub begun : Batch → List Said → ℕ
begun batch [] = 0
begun batch (message ∷ later) = if is_begun batch message then 1 else 0

-- Which lines an offer of these messages begins, where so many of them are taken: never that of the first, where it is begun already.
pub data Begins (before after : Batch) (messages : List Said) (count : ℕ) : Option DeviceFault → List Said → Type 0 where
  -- all, and they are out
  all : count ≡ length messages → rest after ≡ [] → Begins before after messages count None (drop (begun before messages) messages)
  -- none: what was begun isn't out yet, or there is no memory to see whether that is the first message's
  nothing : (fault : DeviceFault) → count ≡ 0 → last_line after ≡ last_line before → Begins before after messages count (Some fault) []
  -- those of the messages that are taken, and they are out
  whole :
      (fault : DeviceFault) → count < length messages → rest after ≡ []
      → Begins before after messages count (Some fault) (drop (begun before messages) (take count messages))
  -- and the next one, of which something is still to be written
  torn :
      (next : Said) → count < length messages → take (count + 1) messages ≡ take count messages ++ next ∷ [] → last_line after ≡ line_of next
      → Begins before after messages count (Some Write) (drop (begun before messages) (take (count + 1) messages))

-- With what is still to be written, the writer has what it had, and the lines that are begun.
pub record Wrote (contents contents' : Option (List ℕ)) (before after : Batch) (messages : List Said) (count : ℕ) (fault : Option DeviceFault) : Type 0 where
  pub lines : List Said
  pub begins : Begins before after messages count fault lines
  pub appends : Appends (with_held contents (rest before)) (with_held contents' (rest after)) (lines_of lines)
