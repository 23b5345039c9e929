-- What is written of messages of which nothing is begun.
use Rattle.std.specs.Prelude.{◌≡◌, ℕ, ◌+◌, ◌<◌, List, [], ◌∷◌, ◌++◌, length, take, Option, Some, None}
use Rattle.std.specs.Io.KnownBytes.{Appends}
use Rattle.sy_actions.specs.declared.device.DeviceFault.{DeviceFault}
use Rattle.sy_actions.specs.declared.device.DeviceFault.TheVariants.{Write}
use Rattle.sy_wire.specs.Messages.{Said}
use Rattle.sy_wire.specs.Streams.{with_held}
use Rattle.sy_escapes.specs.Escapes.{line_of, lines_of}
use Rattle.sy_escapes.specs.Sinks.{last_line, rest}
use Rattle.sy_escapes.specs.declared.batch.Batch.{Batch}

module _ (contents contents' : Option (List ℕ)) (before after : Batch) where
  abbrev pub Adds : List Said → Type 0
  Adds messages = Appends (with_held contents (rest before)) (with_held contents' (rest after)) (lines_of messages)

  -- the lines of so many messages are written, and after a fault perhaps a part of the next one's
  pub data Run (messages : List Said) (count : ℕ) : Option DeviceFault → Type 0 where
    all : rest after ≡ [] → Adds (take count messages) → Run messages count None
    whole : (fault : DeviceFault) → count < length messages → rest after ≡ [] → Adds (take count messages) → Run messages count (Some fault)
    torn :
        (next : Said) → count < length messages → take (count + 1) messages ≡ take count messages ++ next ∷ [] → last_line after ≡ line_of next
        → Adds (take (count + 1) messages) → Run messages count (Some Write)
