-- Selectors (rsyslog manual, "Filter Conditions", selectors): their grammar, and the set of pairs that each stands for.
--   selector = part *(";" part)
--   part     = ("*" | facility *("," facility)) "." level
--   level    = "*" | "none" | ["!"] ["="] severity | "!*"
use Rattle.std.specs.Prelude.{◌≡◌, ℕ, Bool, true, false, not, ◌&&◌, if◌then◌else◌, ◌==◌, nat_lt, ◌+◌, ◌<◌, ◌^◌, List, length, slice_index, [], ◌∷◌, ◌++◌, Some, codes}
use Rattle.std.specs.Int.{bit_at}
use Rattle.std.specs.List.{fold, list_any}
use Rattle.std.specs.Str.{str_eq_ignore_ascii_case}
use Rattle.sy_select.specs.Names.{facility_of, severity_of}

-- ---- the signs between the pieces of a selector, and before the severity of a level

abbrev pub semicolon : ℕ
semicolon = 59

abbrev pub comma : ℕ
comma = 44

abbrev pub dot : ℕ
dot = 46

abbrev pub exclamation_mark : ℕ
exclamation_mark = 33

abbrev pub equals_sign : ℕ
equals_sign = 61

-- ---- parts

pub data Facilities : Type 0 where
  all : Facilities
  listed : List ℕ → Facilities

-- severities: all, those up to a number (it and the more urgent ones, which have smaller numbers), or one alone
pub data Which : Type 0 where
  every : Which
  up_to : ℕ → Which
  only : ℕ → Which

-- severities, and whether they are added or taken away
pub record Level : Type 0 where
  pub takes : Bool
  pub which : Which

pub record Part : Type 0 where
  pub facilities : Facilities
  pub level : Level

-- ---- the grammar: a text, and what it is

-- facility *("," facility)
pub data AreFacilities : List ℕ → List ℕ → Type 0 where
  one : (name : List ℕ) {f : ℕ} → facility_of name ≡ Some f → AreFacilities name (f ∷ [])
  more : (name : List ℕ) {rest fs : List ℕ} {f : ℕ} → facility_of name ≡ Some f → AreFacilities rest fs → AreFacilities (name ++ comma ∷ rest) (f ∷ fs)

-- "*" | facility *("," facility)
abbrev pub IsFacilities : List ℕ → Facilities → Type 0
IsFacilities text all = text ≡ codes "*"
IsFacilities text (listed fs) = AreFacilities text fs

abbrev pub add : Which → Level
add which = record { takes = false; which = which }

abbrev pub take_away : Which → Level
take_away which = record { takes = true; which = which }

-- "*" | "none" | ["!"] ["="] severity | "!*"
pub data IsLevel : List ℕ → Level → Type 0 where
  star : IsLevel (codes "*") (add every)
  none : {text : List ℕ} → str_eq_ignore_ascii_case (codes "none") text ≡ true → IsLevel text (take_away every)
  not_star : IsLevel (codes "!*") (take_away every)
  named : {name : List ℕ} {s : ℕ} → severity_of name ≡ Some s → IsLevel name (add (up_to s))
  equal : {name : List ℕ} {s : ℕ} → severity_of name ≡ Some s → IsLevel (equals_sign ∷ name) (add (only s))
  not_named : {name : List ℕ} {s : ℕ} → severity_of name ≡ Some s → IsLevel (exclamation_mark ∷ name) (take_away (up_to s))
  not_equal : {name : List ℕ} {s : ℕ} → severity_of name ≡ Some s → IsLevel (exclamation_mark ∷ equals_sign ∷ name) (take_away (only s))

-- ("*" | facility *("," facility)) "." level
pub record IsPart (text : List ℕ) (part : Part) : Type 0 where
  pub front : List ℕ
  pub behind : List ℕ
  pub facilities : IsFacilities front part.facilities
  pub level : IsLevel behind part.level
  pub whole : text ≡ front ++ dot ∷ behind

-- part *(";" part)
pub data IsSelector : List ℕ → List Part → Type 0 where
  last : {text : List ℕ} {part : Part} → IsPart text part → IsSelector text (part ∷ [])
  more : (text : List ℕ) {rest : List ℕ} {part : Part} {parts : List Part} → IsPart text part → IsSelector rest parts → IsSelector (text ++ semicolon ∷ rest) (part ∷ parts)

-- ---- the set

-- a set of pairs of a facility and a severity, as the test of what is in it
abbrev pub Pairs : Type 0
Pairs = ℕ → ℕ → Bool

abbrev pub no_pairs : Pairs
no_pairs f s = false

abbrev pub has_facility : Facilities → ℕ → Bool
has_facility all f = true
has_facility (listed fs) f = list_any (λ g. g == f) fs

abbrev pub has_severity : Which → ℕ → Bool
has_severity every s = true
has_severity (up_to n) s = nat_lt s (n + 1)
has_severity (only n) s = n == s

-- A part adds the pairs of its facilities and its severities to a set, or takes them away.
abbrev pub apply : Pairs → Part → Pairs
apply pairs part f s = if has_facility part.facilities f && has_severity part.level.which s then not part.level.takes else pairs f s

-- the pairs that are left when the parts apply from left to right to the empty set
unfoldable pub pairs_of : List Part → Pairs
pairs_of parts = fold apply no_pairs parts

-- ---- the code's sets

-- Whether a pair is in severity sets, one for each facility from 0: the bit s of a set is for severity s.
abbrev pub holds : List ℕ → ℕ → ℕ → Bool
holds sets f s = bit_at (slice_index sets f) s == 1

-- for facilities 0 to 23 and severities 0 to 7 the same pairs
abbrev pub SamePairs : List ℕ → Pairs → Type 0
SamePairs sets pairs = (f s : ℕ) → f < 24 → s < 8 → holds sets f s ≡ pairs f s

-- the text is a selector, and these are the sets of the 24 facilities, each of the 8 severities, with the pairs of its parts
pub record IsSetOf (text sets : List ℕ) : Type 0 where
  pub parts : List Part
  pub is_selector : IsSelector text parts
  pub size : length sets ≡ 24
  pub small : (f : ℕ) → f < 24 → slice_index sets f < 2 ^ 8
  pub same : SamePairs sets (pairs_of parts)
