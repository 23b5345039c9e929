-- Messages whose text are given bytes.
use Rattle.std.specs.Prelude.{◌≡◌, ℕ, List, [], ◌∷◌, ◌++◌, length}
use Rattle.sy_wire.specs.Frames.{IsSize}
use Rattle.sy_wire.specs.Messages.{IsMessage, Said}

-- a message (RFC 5424) whose MSG are these bytes, and nothing else
pub record IsMessageOf (raw bytes : List ℕ) : Type 0 where
  pub said : Said
  pub is_message : IsMessage said
  pub raw_is : said.raw ≡ raw
  pub msg_is : said.msg ≡ bytes

-- Each is a message that a frame may carry, and their texts are the bytes, one after the other.
pub data Carry : List (List ℕ) → List ℕ → Type 0 where
  carry_nothing : Carry [] []
  carry_more :
      {message text bytes : List ℕ} {messages : List (List ℕ)}
      → IsMessageOf message text → IsSize (length message) → Carry messages bytes → Carry (message ∷ messages) (text ++ bytes)
