-- Frames of RELP: TXNR SP COMMAND SP DATALEN [SP DATA] LF.
use Rattle.std.specs.Prelude.{◌≡◌, ◌≢◌, ℕ, ◌<◌, ◌≤◌, ◌⊎◌, List, [], ◌∷◌, ◌++◌, length}
use Rattle.std.specs.List.{AllByRecursion, flat_map}
use Rattle.std.specs.Fmt.{decimal}
use Rattle.sy_relp.specs.Bytes.{line_feed, space}

-- the greatest number of a transaction; the one after it is 1 by the protocol, and here a session ends before it
abbrev pub MAX_TXNR : ℕ
MAX_TXNR = 999999999

-- the most content that a frame may carry, in bytes
abbrev pub MAX_CONTENT : ℕ
MAX_CONTENT = 65536

-- the longest command
abbrev pub MAX_COMMAND : ℕ
MAX_COMMAND = 32

-- a letter of ASCII
abbrev pub IsLetter : ℕ → Type 0
IsLetter b = ((65 ≤ b) × (b ≤ 90)) ⊎ ((97 ≤ b) × (b ≤ 122))

-- a frame: the number of its transaction, its command, and its content
pub record Frame : Type 0 where
  pub txnr : ℕ
  pub command : List ℕ
  pub content : List ℕ

-- what stands between the length of the content and the end of the frame: a space and the content, or nothing where there is none
abbrev pub body : List ℕ → List ℕ
body [] = []
body (b ∷ content) = space ∷ b ∷ content

-- what stands behind the command and its space
abbrev pub tail : List ℕ → List ℕ
tail content = decimal (length content) ++ (body content ++ line_feed ∷ [])

-- the bytes of a frame; its numbers have no leading zeros
abbrev pub frame : Frame → List ℕ
frame f = decimal f.txnr ++ (space ∷ (f.command ++ (space ∷ tail f.content)))

-- what a command is: 1 to 32 letters
pub record IsCommand (command : List ℕ) : Type 0 where
  pub some : 0 < length command
  pub short : length command ≤ MAX_COMMAND
  pub letters : AllByRecursion IsLetter command

-- a frame that may stand on the wire
pub record IsFrame (f : Frame) : Type 0 where
  pub txnr : f.txnr ≤ MAX_TXNR
  pub command : IsCommand f.command
  pub size : length f.content ≤ MAX_CONTENT

-- the frames, one after another
abbrev pub stream : List Frame → List ℕ
stream frames = flat_map frame frames

-- More bytes make a frame of these, which are none by themselves.
abbrev pub GoesOn : List ℕ → Type 0
GoesOn bytes = (f : Frame) × (more : List ℕ) × IsFrame f × (more ≢ []) × (bytes ++ more ≡ frame f)

-- However they go on, these bytes begin with no frame.
abbrev pub IsDead : List ℕ → Type 0
IsDead bytes = (f : Frame) (more rest : List ℕ) → IsFrame f → bytes ++ more ≡ frame f ++ rest → ⊥

-- No whole frame stands at the front of these bytes.
abbrev pub NoFrame : List ℕ → Type 0
NoFrame bytes = (f : Frame) (rest : List ℕ) → IsFrame f → bytes ≡ frame f ++ rest → ⊥
