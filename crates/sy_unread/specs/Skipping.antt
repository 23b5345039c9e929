-- Streams with frames above the limit of a framer: what of them is handed on, and what is kept of the rest (this profile's own).
use Rattle.std.specs.Prelude.{◌≡◌, ◌≢◌, ◌⊎◌, ℕ, zero, suc, ◌+◌, ◌-◌, ◌^◌, ◌<◌, ◌≤◌, Bool, true, false, List, [], ◌∷◌, ◌++◌, Option, None, Some, length, take}
use Rattle.std.specs.Fmt.{decimal}
use Rattle.std.specs.Io.KnownBytes.{Consumes, IsAtEnd}
use Rattle.sy_wire.specs.Characters.{IsDigit, nought, space}
use Rattle.sy_wire.specs.Frames.{MAX_FRAME, IsSize}
use Rattle.sy_wire.specs.Streams.{Rose, count_after}
use Rattle.sy_unread.specs.declared.skipping.place.Place.{Place}
use Rattle.sy_unread.specs.declared.skipping.place.Place.TheVariants.{Within, WithinLong, Unframed}

-- a length of nine digits at most
abbrev pub IsNumbered : ℕ → Type 0
IsNumbered n = (0 < n) × (n < 1000000000)

-- a length above the limit that has nine digits at most
abbrev pub IsLong : ℕ → Type 0
IsLong n = (MAX_FRAME < n) × (n < 1000000000)

-- No frame begins so: the first byte is none of 1 to 9, or the byte after the digits is neither a digit nor a space, or there are ten digits.
abbrev pub IsUnframed : List ℕ → Type 0
IsUnframed bytes =
    ((b : ℕ) × (rest : List ℕ) × (bytes ≡ b ∷ rest) × (b ≢ nought → IsDigit b → ⊥))
    ⊎ ((n b : ℕ) × (rest : List ℕ) × IsNumbered n × (bytes ≡ decimal n ++ b ∷ rest) × (IsDigit b → ⊥) × (b ≢ space))
    ⊎ ((n : ℕ) × (rest : List ℕ) × (1000000000 ≤ n) × (n < 10000000000) × (bytes ≡ decimal n ++ rest))

-- a length without its space, or a long frame of which fewer than 65,536 bytes came
abbrev pub IsCut : List ℕ → Type 0
IsCut bytes =
    ((n : ℕ) × IsNumbered n × (bytes ≡ decimal n))
    ⊎ ((n : ℕ) × (text : List ℕ) × IsLong n × (bytes ≡ decimal n ++ space ∷ text) × (length text < MAX_FRAME))

-- what is kept: of a long frame its number, its length and its first 65,536 bytes; or bytes that no frame begins with, and which frame should
pub data Kept : Type 0 where
  long : ℕ → ℕ → List ℕ → Kept
  unframed : ℕ → List ℕ → Kept

-- what keeps these had kept that first, and this more now, where that is known
abbrev pub KeepsMore : Option (List Kept) → Option (List Kept) → List Kept → Type 0
KeepsMore None after more = Unit {0}
KeepsMore (Some before) None more = ⊥
KeepsMore (Some before) (Some after) more = after ≡ before ++ more

-- what keeps these refused once more, where it says how often it did
abbrev pub Refuses : Option ℕ → Option ℕ → Type 0
Refuses None after = Unit {0}
Refuses (Some before) None = ⊥
Refuses (Some before) (Some after) = Rose before after

-- where so many bytes of a long frame are left
abbrev pub past_long : ℕ → Place
past_long zero = Within 0
past_long (suc n) = WithinLong (suc n)

abbrev pub is_within_long : Place → Bool
is_within_long (WithinLong n) = true
is_within_long _ = false

-- the number of the frame behind so many, from 1, which counts no further than 2^64 - 1
abbrev pub next_number : ℕ → ℕ
next_number frames = count_after frames 1

-- From a place on, before which so many frames had begun, of these bytes those were handed on, those kept, and from another place on, before which so many
-- had, those are left. A stream that is over has no more bytes than these.
pub data Goes (is_over : Bool) : ℕ → Place → List ℕ → List ℕ → List Kept → ℕ → Place → List ℕ → Type 0 where
  rests : {k : ℕ} {place : Place} {bytes : List ℕ} → Goes is_over k place bytes [] [] k place bytes
  -- a frame that a framer takes begins
  frame :
      {k k' : ℕ} {bytes out left : List ℕ} {kept : List Kept} {place : Place} (n : ℕ) (rest : List ℕ)
      → IsSize n → bytes ≡ decimal n ++ space ∷ rest
      → Goes is_over (next_number k) (Within (length (decimal n) + 1 + n)) bytes out kept k' place left → Goes is_over k (Within 0) bytes out kept k' place left
  -- bytes of it are handed on
  passes :
      {k k' n : ℕ} {bytes all left : List ℕ} {kept : List Kept} {place : Place} (text rest out : List ℕ)
      → length text ≤ n → bytes ≡ text ++ rest → all ≡ text ++ out
      → Goes is_over k (Within (n - length text)) rest out kept k' place left → Goes is_over k (Within n) bytes all kept k' place left
  -- a long frame begins, of which so much is kept
  keeps :
      {k k' : ℕ} {bytes out left : List ℕ} {kept : List Kept} {place : Place} (n : ℕ) (text rest : List ℕ)
      → IsLong n → length text ≡ MAX_FRAME → bytes ≡ decimal n ++ space ∷ (text ++ rest)
      → Goes is_over (next_number k) (past_long (n - MAX_FRAME)) rest out kept k' place left
      → Goes is_over k (Within 0) bytes out (long (next_number k) n text ∷ kept) k' place left
  -- bytes of it are skipped
  skips :
      {k k' n : ℕ} {bytes out left : List ℕ} {kept : List Kept} {place : Place} (text rest : List ℕ)
      → length text ≤ n → bytes ≡ text ++ rest
      → Goes is_over k (past_long (n - length text)) rest out kept k' place left → Goes is_over k (WithinLong n) bytes out kept k' place left
  -- no frame begins with the bytes that came, of which 1,024 are kept at most
  strays :
      {k k' : ℕ} {bytes out left : List ℕ} {kept : List Kept} {place : Place} (came rest : List ℕ)
      → IsUnframed came → bytes ≡ came ++ rest
      → Goes is_over k Unframed bytes out kept k' place left → Goes is_over k (Within 0) bytes out (unframed (next_number k) (take 1024 came) ∷ kept) k' place left
  -- the stream is over, and was cut there
  ends :
      {k k' : ℕ} {bytes out left : List ℕ} {kept : List Kept} {place : Place}
      → is_over ≡ true → IsCut bytes
      → Goes is_over k Unframed bytes out kept k' place left → Goes is_over k (Within 0) bytes out kept k' place left
  -- bytes are handed on as they come
  follows :
      {k k' : ℕ} {bytes all left : List ℕ} {kept : List Kept} {place : Place} (text rest out : List ℕ)
      → bytes ≡ text ++ rest → all ≡ text ++ out
      → Goes is_over k Unframed rest out kept k' place left → Goes is_over k Unframed bytes all kept k' place left

-- where in the stream it is, how many frames had begun before, and what came and was neither handed on nor kept nor skipped
pub record At : Type 0 where
  pub place : Place
  pub frames : ℕ
  pub held : List ℕ

-- Where no frame begins, the first 1,024 of all bytes that are there are what is kept last; unless it stood there before, and nothing came.
abbrev pub KeepsStray : At → At → List Kept → Type 0
KeepsStray old new kept =
    new.place ≡ Unframed
    → ((old.place ≡ Unframed) × (kept ≡ []) × (new.held ≡ old.held) × (new.frames ≡ old.frames))
    ⊎ ((before : List Kept) × (kept ≡ before ++ unframed (next_number new.frames) (take 1024 new.held) ∷ []))

-- bytes came, and nothing of them was handed on; what was kept of them
pub record SetsAside (old new : At) (ahead ahead' : Option (List ℕ)) (before after : Option (List Kept)) : Type 0 where
  pub came : List ℕ
  pub consumed : Consumes ahead ahead' came
  pub kept : List Kept
  pub keeps : KeepsMore before after kept
  pub goes : Goes false old.frames old.place (old.held ++ came) [] kept new.frames new.place new.held
  pub stray : KeepsStray old new kept

-- bytes came, and those were handed on; nothing was kept
pub record HandsOn (old new : At) (ahead ahead' : Option (List ℕ)) (out : List ℕ) : Type 0 where
  pub came : List ℕ
  pub consumed : Consumes ahead ahead' came
  pub is_over : Bool
  pub over : is_over ≡ true → IsAtEnd ahead'
  pub goes : Goes is_over old.frames old.place (old.held ++ came) out [] new.frames new.place new.held

-- A read: first what had to be kept was kept, and then those bytes were handed on.
pub record Reads (old new : At) (ahead ahead' : Option (List ℕ)) (before after : Option (List Kept)) (out : List ℕ) : Type 0 where
  pub between : At
  pub between_ahead : Option (List ℕ)
  pub first : SetsAside old between ahead between_ahead before after
  pub second : HandsOn between new between_ahead ahead' out

-- So often was the inner source read without a byte to hand on that a read ends: with the bytes that were held, 2^46 times or more.
abbrev pub IsEndless : At → ℕ → ℕ → Type 0
IsEndless old calls calls' = (reads : ℕ) × (count_after calls reads ≤ calls') × (2 ^ 46 ≤ length old.held + reads)

-- Why a read fails: a read of the inner source failed, or what had to be kept was refused, or it found no end.
abbrev pub HasCause : At → ℕ → ℕ → ℕ → ℕ → Option ℕ → Option ℕ → Type 0
HasCause old faults faults' calls calls' refused refused' = Rose faults faults' ⊎ Refuses refused refused' ⊎ IsEndless old calls calls'
