-- What comes of a turn of a connection.
use Rattle.std.specs.Prelude.{◌≡◌, ℕ, false, List, Option}
use Rattle.sy_wire.specs.Streams.{Rose}
use Rattle.sy_runtime.specs.Connections.{Connects, Kept, ReaderState, Serves, rest_of}
use Rattle.sy_runtime.specs.declared.between.Turn.{Turn}
use Rattle.sy_runtime.specs.declared.between.Turn.TheVariants as turn

-- What comes of a turn: the connection may go on, with what was read so far; or it has ended, which no failed read does.
abbrev pub TurnIs : Turn → Option (List ℕ) → Option (List ℕ) → Kept → Type 0
TurnIs (turn.GoesOn connection) ahead ahead' kept = Serves ahead ahead' connection.end kept connection.left
TurnIs (turn.NotRead connection) ahead ahead' kept = Serves ahead ahead' connection.end kept connection.left
TurnIs (turn.Over end untaken answer) ahead ahead' kept =
    (failed failed' : ℕ) → Connects answer end kept (rest_of untaken.items.items untaken.framer.left) ahead ahead' failed failed'

-- the hand of its reader: no message is in it where the connection goes on, and it is as it was where nothing was read
abbrev pub HandIs : Turn → ReaderState → ReaderState → Type 0
HandIs (turn.GoesOn connection) old new = new.has_message ≡ false
HandIs (turn.NotRead connection) old new = new.has_message ≡ old.has_message
HandIs (turn.Over end untaken answer) old new = Unit {0}

-- how often its source failed, before and after a turn
abbrev pub FailsAt : Turn → ℕ → ℕ → Type 0
FailsAt (turn.GoesOn connection) failed failed' = failed' ≡ failed
FailsAt (turn.NotRead connection) failed failed' = Rose failed failed'
FailsAt (turn.Over end untaken answer) failed failed' = failed' ≡ failed
