-- What the private functions that read a text answer (this profile's own).
use Rattle.std.specs.Prelude.{◌≡◌, ℕ, List, [], ◌∷◌, ◌++◌, Option, Some, None, map, true}
use Rattle.std.specs.Fmt.{decimal}
use Rattle.sy_cert.specs.declared.fault.FaultCode.{FaultCode}
use Rattle.sy_cert.specs.declared.fault.FaultCode.TheVariants as code
use Rattle.sy_cert.specs.declared.row.Row.{Row}
use Rattle.sy_cert.specs.declared.kinds.Kind.{Kind}
use Rattle.sy_cert.specs.Rows.{AreOccurrences, IsRow, kind, last_kind, may_follow, words}
pub use Rattle.sy_wire.specs.Words.{words_left}
use Rattle.sy_cert.specs.Faults.{HasShape, IsFaulty, Lacks, words_in}

-- bytes are cut at the first of a mark
pub record IsCut (mark : ℕ) (bytes front behind : List ℕ) : Type 0 where
  pub whole : bytes ≡ front ++ mark ∷ behind
  pub lacks : Lacks mark front

-- the row of a line, in a certificate of the version
pub record IsRowOf (version : ℕ) (line : List (List ℕ)) (r : Row) : Type 0 where
  pub is_row : IsRow version r
  pub words_are : words r ≡ line

-- why a line gives no row
abbrev pub IsUnread : (version : ℕ) → List (List ℕ) → FaultCode → Type 0
IsUnread version line code.Line = HasShape version line → ⊥
IsUnread version line code.Order = ⊥
IsUnread version line code.Number = HasShape version line × ((r : Row) → IsRow version r → words r ≡ line → ⊥)
IsUnread version line code.NoMemory = Unit {0}

-- why words give no occurrences
abbrev pub AreUnread : List (List ℕ) → FaultCode → Type 0
AreUnread ws code.Line = ⊥
AreUnread ws code.Order = ⊥
AreUnread ws code.Number = (ns : List ℕ) → AreOccurrences ns → map decimal ns ≡ ws → ⊥
AreUnread ws code.NoMemory = Unit {0}

-- a row for the line is put behind others
pub record IsTaken (version : ℕ) (line : List (List ℕ)) (before after : List Row) : Type 0 where
  pub row : Row
  pub is_row_of : IsRowOf version line row
  pub follows : may_follow (last_kind before) (kind row) ≡ true
  pub more : after ≡ before ++ row ∷ []

-- why no row is put behind others
abbrev pub IsNotTaken : (version : ℕ) → Kind → List (List ℕ) → FaultCode → Type 0
IsNotTaken version before line code.NoMemory = Unit {0}
IsNotTaken version before line c = IsFaulty version before line c
