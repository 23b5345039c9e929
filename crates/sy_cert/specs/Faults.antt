-- The faults of a certificate's text (this profile's own). Lines count from 1, and the first faulty line is the one
-- that has only rows before it.
use Rattle.std.specs.Prelude.{◌≡◌, ℕ, ◌+◌, ◌==◌, ◌&&◌, Bool, true, false, List, [], ◌∷◌, ◌++◌, length, codes}
use Rattle.std.specs.Fmt.{decimal}
use Rattle.std.specs.List.{list_all, slice_split}
use Rattle.sy_cert.specs.declared.fault.FaultCode.{FaultCode}
use Rattle.sy_cert.specs.declared.fault.FaultCode.TheVariants as code
use Rattle.sy_cert.specs.declared.fault.TextFault.{TextFault}
use Rattle.sy_cert.specs.declared.row.Row.{Row}
use Rattle.sy_cert.specs.declared.kinds.Kind.{Kind}
use Rattle.sy_wire.specs.Numbers.{is_numeral}
pub use Rattle.sy_wire.specs.Words.{words_in}
use Rattle.sy_cert.specs.Rows.{IsCertificate, IsRow, IsVersion, head, is_action, is_name, kind, last_kind, may_follow, text, words}

-- ---- their numbers and names

abbrev pub number : FaultCode → ℕ
number code.Line = 61
number code.Order = 62
number code.Number = 63
number code.NoMemory = 64

-- the number and the name
abbrev pub words_of : FaultCode → List ℕ
words_of code.Line = codes "61 Line"
words_of code.Order = codes "62 Order"
words_of code.Number = codes "63 Number"
words_of code.NoMemory = codes "64 NoMemory"

-- a fault in words: its number and name, and its line
abbrev pub fault_text : TextFault → List ℕ
fault_text f = words_of f.code ++ (codes " in line " ++ decimal f.line)

-- ---- the shapes of a line, given as its words

-- class NUMBER
pub record IsClassLine (line : List (List ℕ)) (class : List ℕ) : Type 0 where
  pub whole : line ≡ codes "class" ∷ class ∷ []
  pub class_is : is_numeral class ≡ true

-- WORD RELAY NUMBER, where the word is `reach`, `branch` or `rank`
pub record IsRelayLine (word : List ℕ) (line : List (List ℕ)) (relay number : List ℕ) : Type 0 where
  pub whole : line ≡ word ∷ relay ∷ number ∷ []
  pub relay_is : is_name relay ≡ true
  pub number_is : is_numeral number ≡ true

-- inner RELAY NUMBER NUMBER
pub record IsInnerLine (line : List (List ℕ)) (relay list number : List ℕ) : Type 0 where
  pub whole : line ≡ codes "inner" ∷ relay ∷ list ∷ number ∷ []
  pub relay_is : is_name relay ≡ true
  pub list_is : is_numeral list ≡ true
  pub number_is : is_numeral number ≡ true

-- path RELAY PORT RELAY ACTION NUMBER..
pub record IsPathLine (line : List (List ℕ)) (relay port archive_relay action : List ℕ) (occurrences : List (List ℕ)) : Type 0 where
  pub whole : line ≡ codes "path" ∷ relay ∷ port ∷ archive_relay ∷ action ∷ occurrences
  pub relay_is : is_name relay ≡ true
  pub port_is : is_numeral port ≡ true
  pub archive_relay_is : is_name archive_relay ≡ true
  pub action_is : is_action action ≡ true
  pub occurrences_are : list_all is_numeral occurrences ≡ true

-- a line of the shape of some row of a version
pub data HasShape (version : ℕ) (line : List (List ℕ)) : Type 0 where
  class_line : (class : List ℕ) → IsClassLine line class → HasShape version line
  reach_line : (relay port : List ℕ) → IsRelayLine (codes "reach") line relay port → HasShape version line
  branch_line : (relay port : List ℕ) → version ≡ 2 → IsRelayLine (codes "branch") line relay port → HasShape version line
  rank_line : (relay rank : List ℕ) → IsRelayLine (codes "rank") line relay rank → HasShape version line
  inner_line : (relay list number : List ℕ) → IsInnerLine line relay list number → HasShape version line
  path_line : (relay port archive_relay action : List ℕ) (occurrences : List (List ℕ)) → IsPathLine line relay port archive_relay action occurrences
      → HasShape version line

-- ---- the faults of a line, given as its words

-- 61: it has the shape of no row of the version. 63: it has such a shape, and is the line of no row, since a number has a
-- leading zero or is out of range. 62: it is the line of a row that may not follow the one before.
abbrev pub IsFaulty : (version : ℕ) → Kind → List (List ℕ) → FaultCode → Type 0
IsFaulty version before line code.Line = HasShape version line → ⊥
IsFaulty version before line code.Order = (r : Row) × IsRow version r × (words r ≡ line) × (may_follow before (kind r) ≡ false)
IsFaulty version before line code.Number = HasShape version line × ((r : Row) → IsRow version r → words r ≡ line → ⊥)
IsFaulty version before line code.NoMemory = ⊥

-- ---- the fault of a text, with its line

-- none of these bytes is this one
abbrev pub Lacks : ℕ → List ℕ → Type 0
Lacks byte [] = Unit {0}
Lacks byte (b ∷ bs) = ((b == byte) ≡ false) × Lacks byte bs

-- a text begins with the lines of a certificate of this version, and this is after them
pub record BeginsWith (bytes : List ℕ) (version : ℕ) (rows : List Row) (rest : List ℕ) : Type 0 where
  pub whole : bytes ≡ text version rows ++ rest
  pub certificate : IsCertificate version rows

-- the line after these rows and the first one
abbrev pub line_after : List Row → ℕ
line_after rows = length rows + 2

pub data HasFault (bytes : List ℕ) : FaultCode → ℕ → Type 0 where
  -- the first line is neither `cert 1` nor `cert 2`
  no_head : ((version : ℕ) (rest : List ℕ) → IsVersion version → bytes ≡ head version ++ 10 ∷ rest → ⊥) → HasFault bytes code.Line 1
  -- the last line isn't ended
  not_ended : (version : ℕ) (rows : List Row) (b : ℕ) (line : List ℕ) → BeginsWith bytes version rows (b ∷ line) → Lacks 10 (b ∷ line)
      → HasFault bytes code.Line (line_after rows)
  -- a line is faulty
  faulty : (version : ℕ) (rows : List Row) (line rest : List ℕ) (c : FaultCode) → BeginsWith bytes version rows (line ++ 10 ∷ rest) → Lacks 10 line
      → IsFaulty version (last_kind rows) (words_in line) c
      → HasFault bytes c (line_after rows)

-- memory ran out where a whole line stands after some rows
pub record IsRefused (bytes : List ℕ) (place : ℕ) : Type 0 where
  pub version : ℕ
  pub rows : List Row
  pub line : List ℕ
  pub later : List ℕ
  pub begins : BeginsWith bytes version rows (line ++ 10 ∷ later)
  pub place_is : place ≡ line_after rows
