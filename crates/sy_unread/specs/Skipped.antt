-- Whole streams of frames, short and long: what is handed on of them, and what is kept.
use Rattle.std.specs.Prelude.{◌≡◌, ℕ, Bool, false, List, [], ◌∷◌, ◌++◌, length, leb, take, if◌then◌else◌}
use Rattle.std.specs.List.{AllByRecursion}
use Rattle.sy_wire.specs.Frames.{MAX_FRAME, stream}
use Rattle.sy_unread.specs.Skipping.{Goes, IsNumbered, Kept, long, next_number}
use Rattle.sy_unread.specs.declared.skipping.place.Place.{Place}
use Rattle.sy_unread.specs.declared.skipping.place.Place.TheVariants.{Within}

-- those of the messages whose frames a framer takes
abbrev pub short_of : List (List ℕ) → List (List ℕ)
short_of [] = []
short_of (message ∷ messages) = if leb (length message) MAX_FRAME then message ∷ short_of messages else short_of messages

-- what is kept of the others, where so many frames stand before them
abbrev pub long_of : ℕ → List (List ℕ) → List Kept
long_of k [] = []
long_of k (message ∷ messages) =
    if leb (length message) MAX_FRAME then long_of (next_number k) messages
    else long (next_number k) (length message) (take MAX_FRAME message) ∷ long_of (next_number k) messages

-- Of a stream of frames whose lengths have nine digits at most exactly those are handed on that a framer takes, in their order, and of each
-- other one exactly its number among all, its length and its first bytes are kept, in their order.
pub record AllGo (messages : List (List ℕ)) (out : List ℕ) (kept : List Kept) (place : Place) : Type 0 where
  pub handed : out ≡ stream (short_of messages)
  pub kept_are : kept ≡ long_of 0 messages
  pub at_a_frame : place ≡ Within 0

abbrev pub FramesGo : Type 0
FramesGo =
    (is_over : Bool) (messages : List (List ℕ)) (out : List ℕ) (kept : List Kept) (count : ℕ) (place : Place)
    → AllByRecursion (λ message. IsNumbered (length message)) messages
    → Goes is_over 0 (Within 0) (stream messages) out kept count place [] → AllGo messages out kept place

-- What goes on after a stretch goes on from its beginning, with all bytes of both.
abbrev pub StretchesJoin : Type 0
StretchesJoin =
    (is_over : Bool) (k k' k'' : ℕ) (from between to : Place) (bytes more left rest out out' : List ℕ) (kept kept' : List Kept)
    → Goes false k from bytes out kept k' between left → Goes is_over k' between (left ++ more) out' kept' k'' to rest
    → Goes is_over k from (bytes ++ more) (out ++ out') (kept ++ kept') k'' to rest
