-- What bytes begin with, where frames may be long, and what the steps of a read say.
use Rattle.std.specs.Prelude.{◌≡◌, ◌⊎◌, ℕ, zero, suc, ◌+◌, ◌*◌, ◌<◌, ◌≤◌, false, List, [], ◌∷◌, ◌++◌, Option, length, take, drop}
use Rattle.std.specs.Fmt.{decimal}
use Rattle.std.specs.Io.KnownBytes.{IsAtEnd}
use Rattle.sy_wire.specs.Characters.{space}
use Rattle.sy_wire.specs.Frames.{IsSize}
use Rattle.sy_wire.specs.Streams.{Rose, count_after}
use Rattle.sy_unread.specs.Skipping.{At, Goes, HandsOn, IsLong, IsNumbered, IsUnframed, Kept, Refuses, SetsAside, next_number}
use Rattle.sy_unread.specs.declared.skipping.place.Place.{Place}
use Rattle.sy_unread.specs.declared.skipping.place.Place.TheVariants.{Within, WithinLong, Unframed}
use Rattle.sy_unread.specs.declared.skipping.front.Front.{Front}
use Rattle.sy_unread.specs.declared.skipping.front.Front.TheVariants as front
use Rattle.sy_unread.specs.declared.skipping.turn.Turn.{Turn}
use Rattle.sy_unread.specs.declared.skipping.turn.Turn.TheVariants as turn

-- a head of a frame of n bytes, and where its text begins
pub record HasHead (bytes : List ℕ) (n from : ℕ) : Type 0 where
  pub rest : List ℕ
  pub whole : bytes ≡ decimal n ++ space ∷ rest
  pub from_is : from ≡ length (decimal n) + 1
  pub short : from ≤ 10

abbrev pub FrontIs : List ℕ → Front → Type 0
FrontIs bytes (front.Frame n from) = IsSize n × HasHead bytes n from
FrontIs bytes (front.Long n from) = IsLong n × HasHead bytes n from
FrontIs bytes front.Open = (length bytes < 10) × ((bytes ≡ []) ⊎ ((n : ℕ) × IsNumbered n × (bytes ≡ decimal n)))
FrontIs bytes front.Unframed = IsUnframed bytes

-- so many of the bytes are handed on, from within a frame to within another, and so many frames had begun before and after
abbrev pub Passes : ℕ → ℕ → List ℕ → ℕ → ℕ → ℕ → Type 0
Passes frames within bytes count frames' within' = Goes false frames (Within within) bytes (take count bytes) [] frames' (Within within') (drop count bytes)

-- how many frames have begun after the next byte, of which so many bytes of a frame were to come
abbrev pub begun : ℕ → ℕ → ℕ
begun zero frames = next_number frames
begun (suc within) frames = frames

-- the same from within a frame, or at the head of one, of which so many bytes are to come
abbrev pub Starts : ℕ → List ℕ → ℕ → Type 0
Starts within bytes size =
    (0 < size) × (((0 < within) × (size ≡ within)) ⊎ ((within ≡ 0) × (n from : ℕ) × IsSize n × HasHead bytes n from × (size ≡ from + n)))

abbrev pub TurnIs : Turn → At → At → Option (List ℕ) → Option (List ℕ) → Option (List Kept) → Option (List Kept) → List ℕ → Type 0
TurnIs turn.GoesOn old new ahead ahead' before after buffer = SetsAside old new ahead ahead' before after
TurnIs turn.Fails old new ahead ahead' before after buffer = SetsAside old new ahead ahead' before after
TurnIs (turn.Gives count) old new ahead ahead' before after buffer =
    (count ≤ length buffer) × HandsOn old new ahead ahead' (take count buffer) × (after ≡ before) × (count ≡ 0 → IsAtEnd ahead' × (new.held ≡ []))

abbrev pub rank : Place → ℕ
rank Unframed = 0
rank (Within n) = 1
rank (WithinLong n) = 2

-- more than the turns that may go on without a read
abbrev pub turns_left : At → ℕ
turns_left at = 2 * length at.held + rank at.place

-- a turn that goes on has fewer before it, or read once
abbrev pub Nears : At → At → ℕ → ℕ → Type 0
Nears old new calls calls' = ((calls' ≡ calls) × (turns_left new < turns_left old)) ⊎ ((calls' ≡ count_after calls 1) × (turns_left new ≤ 131094))

-- why a turn fails, and that turns that go on come to an end
abbrev pub CauseIs : Turn → At → At → ℕ → ℕ → ℕ → ℕ → Option ℕ → Option ℕ → Type 0
CauseIs turn.Fails old new faults faults' calls calls' refused refused' = Rose faults faults' ⊎ Refuses refused refused'
CauseIs turn.GoesOn old new faults faults' calls calls' refused refused' = (faults ≤ faults') × (refused' ≡ refused) × Nears old new calls calls'
CauseIs (turn.Gives count) old new faults faults' calls calls' refused refused' = Unit {0}
