-- What the functions say that make a certificate.
use Rattle.std.specs.Prelude.{[], ◌≡◌, ℕ, ◌<◌, ◌≤◌, true, List, ◌∷◌, ◌++◌, length}
use Rattle.sy_wire.specs.declared.class.Class.{Class}
use Rattle.sy_site.specs.Sites.{Site}
use Rattle.sy_cert.specs.declared.kinds.Kind.{Kind}
use Rattle.sy_cert.specs.declared.row.Row.{Row}
use Rattle.sy_cert.specs.declared.row.Row.TheVariants as row
use Rattle.sy_cert.specs.Rows.{IsRow, kind, may_follow}
use Rattle.sy_fit.specs.Fit.{AreRight, AreWanted}
use Rattle.sy_fit.specs.declared.rows.wanted.Wanted.{Wanted}

-- the rows that are wanted for a class, each right, and no more
pub record AreRowsOf (site : Site) (class : Class) (rows : List Row) : Type 0 where
  pub part : List Wanted
  pub are_wanted : AreWanted site class part
  pub right : AreRight site class part rows
  pub many : length rows ≡ length part

-- They are put behind the others.
pub record AddsRowsOf (site : Site) (class : Class) (old new : List Row) : Type 0 where
  pub more : List Row
  pub are : AreRowsOf site class more
  pub whole : new ≡ old ++ more

-- ---- rows of a certificate

-- its numbers are in range
abbrev pub IsInRange : Row → Type 0
IsInRange (row.Class class) = (class.facility < 24) × (class.severity < 8)
IsInRange (row.Reach relay port) = port ≤ 65535
IsInRange (row.Branch relay port) = port ≤ 65535
IsInRange (row.Rank relay rank) = rank ≤ 4294967295
IsInRange (row.Inner relay list number) = (list ≤ 4294967295) × (number ≤ 4294967295)
IsInRange (row.Path relay port archive_relay action occurrences) = port ≤ 65535

-- each is a row of the version, with its shape where its numbers are in range, and may follow the one before
abbrev pub AreShaped : ℕ → Kind → List Row → Type 0
AreShaped version before [] = Unit {0}
AreShaped version before (r ∷ rows) =
    (IsInRange r → IsRow version r) × (may_follow before (kind r) ≡ true) × AreShaped version (kind r) rows
