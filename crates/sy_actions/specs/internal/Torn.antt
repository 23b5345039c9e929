-- What a sink of lines remembers of a line that is torn.
use Rattle.std.specs.Prelude.{◌≡◌, ◌<◌, ℕ, List, [], length}
use Rattle.sy_wire.specs.Messages.{IsMessage, Said}
use Rattle.sy_actions.specs.Lines.{line}

-- so many bytes of a message's line are out, not all of them
pub record IsTornLine (text : List ℕ) (out : ℕ) : Type 0 where
  pub message : Said
  pub is_message : IsMessage message
  pub is_line : text ≡ line message.raw
  pub left : out < length text

-- nothing is torn, or a message's line
pub record IsTorn (torn : List ℕ) (out : ℕ) : Type 0 where
  pub nothing : out ≡ 0 → torn ≡ []
  pub begun : 0 < out → IsTornLine torn out
