-- Why bytes begin with no frame, however they go on: its first part, from the left, that is none.
use Rattle.std.specs.Prelude.{◌≡◌, ◌≢◌, ℕ, zero, suc, ◌<◌, ◌≤◌, List, ◌∷◌, ◌++◌, length}
use Rattle.std.specs.Fmt.{decimal}
use Rattle.sy_relp.specs.Bytes.{line_feed, space}
use Rattle.sy_relp.specs.Frames.{IsCommand, MAX_CONTENT, MAX_TXNR}
use Rattle.sy_relp.specs.declared.fault.FrameFault.{FrameFault}
use Rattle.sy_relp.specs.declared.fault.FrameFault.TheVariants.{BadNumber, BadCommand, BadLength, TooLong, BadTrailer, Truncated, NoMemory, Failed}

-- the number and the command of a frame stand at the front, and this behind their spaces
pub record HasHead (bytes rest : List ℕ) : Type 0 where
  pub txnr : ℕ
  pub command : List ℕ
  pub number : txnr ≤ MAX_TXNR
  pub is_command : IsCommand command
  pub whole : bytes ≡ decimal txnr ++ space ∷ (command ++ space ∷ rest)

-- the byte behind a length: a space before content, and else the end of the frame
abbrev pub length_end : ℕ → ℕ
length_end zero = line_feed
length_end (suc n) = space

-- However they go on, the bytes begin with no number of a transaction and a space.
abbrev pub IsBadNumber : List ℕ → Type 0
IsBadNumber bytes = (txnr : ℕ) (more behind : List ℕ) → txnr ≤ MAX_TXNR → bytes ++ more ≡ decimal txnr ++ space ∷ behind → ⊥

-- However they go on, the bytes begin with no command and a space.
abbrev pub NeverCommand : List ℕ → Type 0
NeverCommand bytes = (command more behind : List ℕ) → IsCommand command → bytes ++ more ≡ command ++ space ∷ behind → ⊥

-- A number is there, and no command behind it.
abbrev pub IsBadCommand : List ℕ → Type 0
IsBadCommand bytes = (txnr : ℕ) × (rest : List ℕ) × (txnr ≤ MAX_TXNR) × (bytes ≡ decimal txnr ++ space ∷ rest) × NeverCommand rest

-- The digits at the front make more than a frame may carry. (If so, the first five or six of them do.)
abbrev pub IsLong : List ℕ → Type 0
IsLong bytes = (n : ℕ) × (rest : List ℕ) × (MAX_CONTENT < n) × (n < 1000000) × (bytes ≡ decimal n ++ rest)

-- However they go on, the bytes begin with no length and the byte behind it.
abbrev pub NeverLength : List ℕ → Type 0
NeverLength bytes = (len : ℕ) (more behind : List ℕ) → len ≤ MAX_CONTENT → bytes ++ more ≡ decimal len ++ length_end len ∷ behind → ⊥

-- A head is there, and behind it neither a length nor one that is too long.
abbrev pub IsBadLength : List ℕ → Type 0
IsBadLength bytes = (rest : List ℕ) × HasHead bytes rest × NeverLength rest × (IsLong rest → ⊥)

-- A head is there, and a length behind it that is too long.
abbrev pub IsTooLong : List ℕ → Type 0
IsTooLong bytes = (rest : List ℕ) × HasHead bytes rest × IsLong rest

-- All is there up to the last byte of the content, and the byte behind that is no line feed.
abbrev pub IsBadTrailer : List ℕ → Type 0
IsBadTrailer bytes =
    (rest content behind : List ℕ) × (b : ℕ) × HasHead bytes rest × (0 < length content) × (length content ≤ MAX_CONTENT)
    × (rest ≡ decimal (length content) ++ space ∷ (content ++ b ∷ behind)) × (b ≢ line_feed)

-- what each fault of bytes says
abbrev pub Faulty : FrameFault → List ℕ → Type 0
Faulty BadNumber bytes = IsBadNumber bytes
Faulty BadCommand bytes = IsBadCommand bytes
Faulty BadLength bytes = IsBadLength bytes
Faulty TooLong bytes = IsTooLong bytes
Faulty BadTrailer bytes = IsBadTrailer bytes
Faulty Truncated bytes = ⊥
Faulty NoMemory bytes = ⊥
Faulty Failed bytes = ⊥
