-- What the parts of the judging of a certificate say.
use Rattle.std.specs.Prelude.{◌≡◌, ℕ, ◌≤◌, ◌+◌, List, drop, length}
use Rattle.sy_wire.specs.declared.class.Class.{Class}
use Rattle.sy_site.specs.Sites.{Site}
use Rattle.sy_cert.specs.declared.row.Row.{Row}
use Rattle.sy_fit.specs.Fit.{AreFit, AreRight, AreWanted, AreWrong, IsWrongAt, IsWrongIn}
use Rattle.sy_fit.specs.declared.verifying.CertFault.{CertFault}
use Rattle.sy_fit.specs.declared.verifying.CertFault.TheVariants as faults
use Rattle.sy_fit.specs.declared.verifying.Judged.{Judged}
use Rattle.sy_fit.specs.declared.verifying.Judged.TheVariants as judged
use Rattle.sy_fit.specs.declared.rows.wanted.RowKind.{RowKind}
use Rattle.sy_fit.specs.declared.rows.wanted.Wanted.{Wanted}

-- of rows alone
abbrev pub AreWrongRows : Site → List Row → CertFault → Type 0
AreWrongRows site rows (faults.Wrong line kind) = IsWrongIn site rows line kind
AreWrongRows site rows faults.NoMemory = Unit {0}

-- ---- the rows of one class

-- these begin with them, and each is right; or the first wrong one stands at this place
abbrev pub IsJudged : Site → Class → List Row → Judged → Type 0
IsJudged site class rows (judged.Right count) =
    (part : List Wanted) × AreWanted site class part × AreRight site class part rows × (length part ≡ count) × (count ≤ length rows)
IsJudged site class rows (judged.Wrong place kind) =
    (part : List Wanted) × AreWanted site class part × IsWrongAt site class part rows place kind × (place ≤ length rows)

-- ---- the rows of some classes

-- So many rows are right: what holds of those behind them for the later classes, holds of all for all classes.
pub record AreDone (site : Site) (classes : List Class) (rows : List Row) (later : List Class) (done : ℕ) : Type 0 where
  pub within : done ≤ length rows
  pub fit : AreFit site later (drop done rows) → AreFit site classes rows
  pub wrong : (place : ℕ) (kind : RowKind) → AreWrong site later (drop done rows) place kind → AreWrong site classes rows (done + place) kind

-- the first wrong row stands in this line, before which are the first line and the rows before it
abbrev pub IsFirstWrong : Site → List Class → List Row → CertFault → Type 0
IsFirstWrong site classes rows (faults.Wrong line kind) = (place : ℕ) × AreWrong site classes rows place kind × (line ≡ place + 2)
IsFirstWrong site classes rows faults.NoMemory = Unit {0}
