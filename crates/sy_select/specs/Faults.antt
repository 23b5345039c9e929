-- The faults of a text that is no selector. They stand at its pieces, and come in the order of the text; the first is the one that is answered.
use Rattle.std.specs.Prelude.{◌≡◌, ℕ, Bool, true, false, not, ◌||◌, ◌&&◌, if◌then◌else◌, ◌==◌, ◌⊎◌, List, [], ◌∷◌, ◌++◌, length, map, Option, Some, None, codes}
use Rattle.std.specs.Char.{is_ascii_alphanumeric}
use Rattle.std.specs.List.{flat_map, list_all, slice_split}
use Rattle.std.specs.Str.{str_eq_ignore_ascii_case, bytes_eq, is_utf8}
use Rattle.sy_select.specs.declared.fault.FaultCode.{FaultCode}
use Rattle.sy_select.specs.declared.fault.FaultCode.TheVariants as code
use Rattle.sy_select.specs.declared.fault.SelectFault.{SelectFault}
use Rattle.sy_script.specs.declared.tree.Span.{Span}
use Rattle.sy_select.specs.Names.{facility_of, severity_of}
use Rattle.sy_select.specs.Selectors.{comma, dot, equals_sign, exclamation_mark, semicolon}

abbrev pub number : FaultCode → ℕ
number code.Facility = 31
number code.Severity = 32
number code.Shape = 33
number code.Operator = 34
number code.NoMemory = 35
number code.Unknown = 42

-- the number and the name
abbrev pub words : FaultCode → List ℕ
words code.Facility = codes "31 Facility"
words code.Severity = codes "32 Severity"
words code.Shape = codes "33 Shape"
words code.Operator = codes "34 Operator"
words code.NoMemory = codes "35 NoMemory"
words code.Unknown = codes "42 Unknown"

abbrev pub with_word : List ℕ → List ℕ → Option (List ℕ)
with_word text [] = Some text
with_word text (b ∷ word) = if is_utf8 (b ∷ word) then Some (text ++ (codes ": " ++ b ∷ word)) else None

-- A fault in words: its number and name, and its word where it has one. It says nothing where the word is no text.
abbrev pub fault_text : SelectFault → Option (List ℕ)
fault_text f = with_word (words f.code) f.word

-- ---- pieces

-- what stands before the first such byte, and after it where there is one
unfoldable pub cut : ℕ → List ℕ → List ℕ × Option (List ℕ)
cut mark [] = ([], None)
cut mark (b ∷ bytes) = if b == mark then ([], Some bytes) else (b ∷ (cut mark bytes).0, (cut mark bytes).1)

-- the pieces between such bytes
abbrev pub pieces : ℕ → List ℕ → List (List ℕ)
pieces mark text = slice_split (λ b. b == mark) text

-- the text without such a byte at its head
abbrev pub behind_sign : ℕ → List ℕ → List ℕ
behind_sign sign [] = []
behind_sign sign (b ∷ bytes) = if b == sign then bytes else b ∷ bytes

-- a level without its signs, of which there may be one `!` and then one `=`
abbrev pub behind_signs : List ℕ → List ℕ
behind_signs text = behind_sign equals_sign (behind_sign exclamation_mark text)

abbrev pub all_alphanumeric : List ℕ → Bool
all_alphanumeric = list_all is_ascii_alphanumeric

-- a piece made of letters and digits
unfoldable pub is_word : List ℕ → Bool
is_word text = not (length text == 0) && all_alphanumeric text

abbrev pub is_some : Option ℕ → Bool
is_some None = false
is_some (Some n) = true

-- ---- flaws: what is wrong with a piece of a selector, with the word of its fault. The first argument is always the whole selector.

pub record Flaw : Type 0 where
  pub code : FaultCode
  pub word : List ℕ

abbrev pub shape : List ℕ → Flaw
shape whole = record { code = code.Shape; word = whole }

-- a piece that should be a name, and is none: it is the word where it is made of letters and digits
abbrev pub no_name : FaultCode → List ℕ → List ℕ → Flaw
no_name c whole piece = if is_word piece then record { code = c; word = piece } else shape whole

abbrev pub facility_faults : List ℕ → List ℕ → List Flaw
facility_faults whole piece = if is_some (facility_of piece) then [] else no_name code.Facility whole piece ∷ []

-- "*", or names of facilities between commas
unfoldable pub facilities_faults : List ℕ → List ℕ → List Flaw
facilities_faults whole text = if bytes_eq text (codes "*") then [] else flat_map (facility_faults whole) (pieces comma text)

-- "*", "none" and "!*" are levels; "none" after a sign is none; else the name of a severity stands after the signs
unfoldable pub level_faults : List ℕ → List ℕ → List Flaw
level_faults whole text =
    if bytes_eq text (codes "*") || bytes_eq text (codes "!*") || str_eq_ignore_ascii_case (codes "none") text then []
    else if str_eq_ignore_ascii_case (codes "none") (behind_signs text) then shape whole ∷ []
    else if is_some (severity_of (behind_signs text)) then []
    else no_name code.Severity whole (behind_signs text) ∷ []

-- the level after the dot, or the fault that there is none
abbrev pub behind_dot : List ℕ → Option (List ℕ) → List Flaw
behind_dot whole None = shape whole ∷ []
behind_dot whole (Some level) = level_faults whole level

unfoldable pub part_faults : List ℕ → List ℕ → List Flaw
part_faults whole part = facilities_faults whole (cut dot part).0 ++ behind_dot whole (cut dot part).1

-- all flaws of a text, from left to right
unfoldable pub faults : List ℕ → List Flaw
faults text = flat_map (part_faults text) (pieces semicolon text)

-- ---- faults

-- the faults of a selector that stands at this place
abbrev pub at_place : Span → Flaw → SelectFault
at_place span flaw = record { code = flaw.code; word = flaw.word; span = span }

abbrev pub faults_at : Span → List ℕ → List SelectFault
faults_at span text = map (at_place span) (faults text)

-- from the first byte of a text to its end
abbrev pub whole_of : List ℕ → Span
whole_of text = record { start = 0; end = length text }

-- it has no word and no place
abbrev pub no_memory : SelectFault
no_memory = record { code = code.NoMemory; word = []; span = record { start = 0; end = 0 } }

-- these faults begin with this one
abbrev pub IsFirst : List SelectFault → SelectFault → Type 0
IsFirst found fault = (later : List SelectFault) × (found ≡ fault ∷ later)

-- what is answered for these faults: the first, or that there is no memory
abbrev pub IsRefusal : List SelectFault → SelectFault → Type 0
IsRefusal found answer = (answer ≡ no_memory) ⊎ IsFirst found answer
