-- What the reading of each part of a frame finds.
use Rattle.std.specs.Prelude.{◌≡◌, ◌≢◌, ℕ, ◌+◌, ◌*◌, ◌<◌, ◌≤◌, ◌⊎◌, List, [], ◌∷◌, ◌++◌, length}
use Rattle.std.specs.Fmt.{decimal}
use Rattle.sy_wire.specs.Characters.{IsDigit}
use Rattle.sy_relp.specs.Faults.{Faulty, IsBadNumber, IsLong, NeverCommand, NeverLength, length_end}
use Rattle.sy_relp.specs.Frames.{GoesOn, IsCommand}
use Rattle.sy_relp.specs.declared.fault.FrameFault.TheVariants.{BadNumber, BadCommand, BadLength, TooLong, BadTrailer}
use Rattle.sy_relp.specs.declared.parts.Halt.{Halt}
use Rattle.sy_relp.specs.declared.parts.Halt.TheVariants.{Short, Bad}
use Rattle.sy_relp.specs.declared.parts.NumberStop.{NumberStop}
use Rattle.sy_relp.specs.declared.parts.NumberStop.TheVariants as stop

-- the bytes go on with one that is no digit
abbrev pub EndsDigits : List ℕ → Type 0
EndsDigits bytes = (c : ℕ) × (rest : List ℕ) × (bytes ≡ c ∷ rest) × (IsDigit c → ⊥)

-- however they go on, the bytes begin with no number up to that and a byte that ends it
abbrev pub NeverNumber : ℕ → List ℕ → Type 0
NeverNumber most bytes = (n c : ℕ) (more rest : List ℕ) → n ≤ most → (IsDigit c → ⊥) → bytes ++ more ≡ decimal n ++ c ∷ rest → ⊥

-- no digits at the front make more than that
abbrev pub NotGreat : ℕ → List ℕ → Type 0
NotGreat most bytes = (n : ℕ) (rest : List ℕ) → most < n → n < 10000000000 → bytes ≡ decimal n ++ rest → ⊥

-- why no number was read
abbrev pub NumberStops : NumberStop → ℕ → List ℕ → Type 0
NumberStops stop.Short most bytes = (bytes ≡ []) ⊎ ((n : ℕ) × (n ≤ most) × (bytes ≡ decimal n))
NumberStops stop.Bad most bytes = NeverNumber most bytes × NotGreat most bytes
NumberStops stop.Great most bytes = (n : ℕ) × (rest : List ℕ) × (most < n) × (n ≤ most * 10 + 9) × (bytes ≡ decimal n ++ rest)

-- more bytes make a number of a transaction and a space of these
abbrev pub TxnrGoesOn : List ℕ → Type 0
TxnrGoesOn bytes = (n : ℕ) × (more : List ℕ) × (n ≤ 999999999) × (more ≢ []) × (bytes ++ more ≡ decimal n ++ 32 ∷ [])

abbrev pub TxnrHalts : Halt → List ℕ → Type 0
TxnrHalts Short bytes = TxnrGoesOn bytes
TxnrHalts (Bad BadNumber) bytes = IsBadNumber bytes
TxnrHalts (Bad fault) bytes = ⊥

-- the same of a command
abbrev pub CommandGoesOn : List ℕ → Type 0
CommandGoesOn bytes = (command more : List ℕ) × IsCommand command × (more ≢ []) × (bytes ++ more ≡ command ++ 32 ∷ [])

abbrev pub CommandHalts : Halt → List ℕ → Type 0
CommandHalts Short bytes = CommandGoesOn bytes
CommandHalts (Bad BadCommand) bytes = NeverCommand bytes
CommandHalts (Bad fault) bytes = ⊥

-- and of a length
abbrev pub LengthGoesOn : List ℕ → Type 0
LengthGoesOn bytes = (len : ℕ) × (more : List ℕ) × (len ≤ 65536) × (more ≢ []) × (bytes ++ more ≡ decimal len ++ length_end len ∷ [])

abbrev pub LengthHalts : Halt → List ℕ → Type 0
LengthHalts Short bytes = LengthGoesOn bytes
LengthHalts (Bad BadLength) bytes = NeverLength bytes × (IsLong bytes → ⊥)
LengthHalts (Bad TooLong) bytes = IsLong bytes
LengthHalts (Bad fault) bytes = ⊥

-- content, and the line feed behind it; nothing where there is none, since the length's byte has ended the frame
abbrev pub closed : List ℕ → List ℕ
closed [] = []
closed (b ∷ content) = b ∷ (content ++ 10 ∷ [])

abbrev pub ContentHalts : Halt → ℕ → List ℕ → Type 0
ContentHalts Short len bytes = (content more : List ℕ) × (length content ≡ len) × (0 < len) × (more ≢ []) × (bytes ++ more ≡ content ++ 10 ∷ [])
ContentHalts (Bad BadTrailer) len bytes = (content behind : List ℕ) × (b : ℕ) × (length content ≡ len) × (0 < len) × (bytes ≡ content ++ b ∷ behind) × (b ≢ 10)
ContentHalts (Bad fault) len bytes = ⊥

abbrev pub FrameHalts : Halt → List ℕ → Type 0
FrameHalts Short bytes = GoesOn bytes
FrameHalts (Bad fault) bytes = Faulty fault bytes
