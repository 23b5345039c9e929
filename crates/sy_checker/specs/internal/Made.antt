-- What the functions say that make the rows of a class.
use Rattle.std.specs.Prelude.{◌≡◌, ℕ, List, Some, get_or, slice_get}
use Rattle.sy_wire.specs.declared.class.Class.{Class}
use Rattle.sy_site.specs.Sites.{Site}
use Rattle.sy_cert.specs.declared.row.Row.{Row}
use Rattle.sy_cert.specs.declared.row.Row.TheVariants as row
use Rattle.sy_fit.specs.declared.rows.wanted.Wanted.{Wanted}
use Rattle.sy_fit.specs.declared.rows.wanted.Wanted.TheVariants as wanted
use Rattle.sy_fit.specs.Fit.{IsBranchRow, IsClassRow, IsPathRow, IsReachRow}
use Rattle.sy_site.specs.Names.{name_of}

-- The row is the wanted one, and holds where ranks are those of all relays and numbers those of all lists.
abbrev pub IsMade : Site → Class → List ℕ → (ℕ → ℕ → ℕ) → Wanted → Row → Type 0
IsMade site class ranks number (wanted.Class c) r = IsClassRow c r
IsMade site class ranks number (wanted.Reach input) r = IsReachRow site class input r
IsMade site class ranks number (wanted.Branch input) r = IsBranchRow site input r
IsMade site class ranks number (wanted.Rank of) r = r ≡ row.Rank (name_of site of) (get_or ranks of 0)
IsMade site class ranks number (wanted.Inner inner) r = r ≡ row.Inner (name_of site inner.relay) inner.list (number inner.relay inner.list)
IsMade site class ranks number (wanted.Path entry archive) r = IsPathRow site class entry archive r

-- at this place
pub record IsMadeAt (site : Site) (class : Class) (ranks : List ℕ) (number : ℕ → ℕ → ℕ) (rows : List Row) (place : ℕ) (is : Wanted) : Type 0 where
  pub stands : Row
  pub there : slice_get rows place ≡ Some stands
  pub made : IsMade site class ranks number is stands
