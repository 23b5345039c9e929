-- The files of the relay lines, and what is wrong with these lines before any file is read (this profile's own).
use Rattle.std.specs.Prelude.{◌≡◌, ℕ, Bool, true, ◌+◌, ◌<◌, ◌≤◌, ◌^◌, ◌⊎◌, if◌then◌else◌, List, [], ◌∷◌, ◌++◌, length, filter, codes}
use Rattle.std.specs.List.{list_any}
use Rattle.std.specs.Str.{bytes_eq}
use Rattle.sy_site.specs.texts.Lines.{is_kind, word_lines}
use Rattle.sy_site.specs.texts.Shapes.{RelayLine, IsRelayLine}

-- ---- limits

-- the most bytes of a site file
abbrev pub BYTES : ℕ
BYTES = 2 ^ 20

-- the most relay lines
abbrev pub RELAYS : ℕ
RELAYS = 64

-- ---- files

abbrev pub is_relay : List (List ℕ) → Bool
is_relay line = is_kind (codes "relay") line

-- how many of these lines begin with `relay`
abbrev pub how_many : List (List (List ℕ)) → ℕ
how_many lines = length (filter is_relay lines)

-- the file that a line of these words names: one where it begins with `relay` and has a third word, else none
abbrev pub file_of : List (List ℕ) → List (List ℕ)
file_of (kind ∷ name ∷ file ∷ later) = if bytes_eq kind (codes "relay") then file ∷ [] else []
file_of line = []

-- the files that the relay lines among these lines name, in their order
abbrev pub files_of : List (List (List ℕ)) → List (List ℕ)
files_of [] = []
files_of (line ∷ later) = file_of line ++ files_of later

abbrev pub is_among : List ℕ → List (List ℕ) → Bool
is_among name names = list_any (λ other. bytes_eq other name) names

-- names, and behind them those of further ones that are new
abbrev pub with_names : List (List ℕ) → List (List ℕ) → List (List ℕ)
with_names names [] = names
with_names names (name ∷ later) = with_names (if is_among name names then names else names ++ name ∷ []) later

-- the files of a text, each once in the order of their first mention
abbrev pub file_names : List ℕ → List (List ℕ)
file_names text = with_names [] (files_of (word_lines text))

-- ---- what is wrong with relay lines by themselves

-- A line with so many relay lines before it is faulty: it begins with `relay`, and has not that shape or is one too many.
pub record IsFaultyRelayLine (relays : ℕ) (line : List (List ℕ)) : Type 0 where
  pub kind : is_relay line ≡ true
  pub wrong : ((it : RelayLine) → IsRelayLine line it → ⊥) ⊎ (RELAYS ≤ relays)

-- The text is too long, which is a fault of line 1, or has a faulty relay line. The number is that of the line, from 1.
pub data HasRelayFault (text : List ℕ) : ℕ → Type 0 where
  too_long : BYTES < length text → HasRelayFault text 1
  in_line : (before later : List (List (List ℕ))) {line : List (List ℕ)} → word_lines text ≡ before ++ line ∷ later
      → IsFaultyRelayLine (how_many before) line
      → HasRelayFault text (length before + 1)

-- no earlier line has one
pub record IsFirstRelayFault (text : List ℕ) (number : ℕ) : Type 0 where
  pub there : HasRelayFault text number
  pub first : (n : ℕ) → n < number → HasRelayFault text n → ⊥
