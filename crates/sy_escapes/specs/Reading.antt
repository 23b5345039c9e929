-- What a line is read as.
use Rattle.std.specs.Prelude.{◌≡◌, ℕ, List}
use Rattle.sy_wire.specs.Messages.{IsFault, IsMessage}
use Rattle.sy_escapes.specs.Escapes.{escaped}
use Rattle.sy_escapes.specs.declared.reading.Line.{Line}
use Rattle.sy_escapes.specs.declared.reading.Line.TheVariants as lines

abbrev pub IsRead : List ℕ → Line → Type 0
IsRead line (lines.Message message) = IsMessage message × (escaped message.raw ≡ line)
IsRead line (lines.NoMessage fault) = (bytes : List ℕ) × (escaped bytes ≡ line) × IsFault bytes fault.code fault.offset
IsRead line lines.NoLine = (bytes : List ℕ) → escaped bytes ≡ line → ⊥
