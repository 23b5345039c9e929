-- What the bytes of a log stand for: frames, each a header of eight bytes and a content.
use Rattle.std.specs.Prelude.{◌≡◌, ℕ, zero, suc, ◌+◌, ◌-◌, ◌*◌, ◌≤◌, List, [], ◌∷◌, ◌++◌, length, if◌then◌else◌, ◌==◌}

-- how many of these bytes are zeros
abbrev pub zero_count : List ℕ → ℕ
zero_count [] = 0
zero_count (b ∷ bytes) = if b == 0 then 1 + zero_count bytes else zero_count bytes

-- four digits to the base 128, the lowest first, each with 128 added, so that no digit is a zero
abbrev pub number : ℕ → ℕ → ℕ → ℕ → ℕ
number a b c d = (a - 128) + 128 * (b - 128) + 16384 * (c - 128) + 2097152 * (d - 128)

-- eight digits
abbrev pub AreDigits : ℕ → ℕ → ℕ → ℕ → ℕ → ℕ → ℕ → ℕ → Type 0
AreDigits a b c d e f g h = (128 ≤ a) × (128 ≤ b) × (128 ≤ c) × (128 ≤ d) × (128 ≤ e) × (128 ≤ f) × (128 ≤ g) × (128 ≤ h)

-- eight bytes that say how long the content is and how many zeros it has, and the content
pub record IsFrame (content frame : List ℕ) : Type 0 where
  pub a : ℕ
  pub b : ℕ
  pub c : ℕ
  pub d : ℕ
  pub e : ℕ
  pub f : ℕ
  pub g : ℕ
  pub h : ℕ
  pub digits : AreDigits a b c d e f g h
  pub size : number a b c d ≡ length content
  pub blanks : number e f g h ≡ zero_count content
  pub bytes : frame ≡ a ∷ b ∷ c ∷ d ∷ e ∷ f ∷ g ∷ h ∷ content

-- no frame stands at the front
abbrev pub BeginsWithNoFrame : List ℕ → Type 0
BeginsWithNoFrame file = (content frame rest : List ℕ) → IsFrame content frame → file ≡ frame ++ rest → ⊥

-- these contents in frames, one behind the other, and nothing else
abbrev pub Frames : List (List ℕ) → List ℕ → Type 0
Frames [] bytes = bytes ≡ []
Frames (content ∷ contents) bytes = (frame : List ℕ) × (rest : List ℕ) × IsFrame content frame × (bytes ≡ frame ++ rest) × Frames contents rest

-- a file stands for these contents: frames of them at the front, and then none
abbrev pub Reads : List (List ℕ) → List ℕ → Type 0
Reads [] file = BeginsWithNoFrame file
Reads (content ∷ contents) file = (frame : List ℕ) × (rest : List ℕ) × IsFrame content frame × (file ≡ frame ++ rest) × Reads contents rest

-- this many zeros
abbrev pub blank : ℕ → List ℕ
blank zero = []
blank (suc n) = 0 ∷ blank n
