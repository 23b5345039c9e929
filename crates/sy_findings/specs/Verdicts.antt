-- What is said of a certificate that is judged (this profile's own).
use Rattle.std.specs.Prelude.{◌≡◌, ℕ, Bool, true, false, List, ◌∷◌, [], ◌++◌, ◌⊎◌, codes}
use Rattle.std.specs.Fmt.{decimal}
use Rattle.sy_site.specs.Sites.{Site}
use Rattle.sy_cert.specs.CertificateValue.{Certificate}
use Rattle.sy_fit.specs.Fit.{IsFitFor, IsWrongFor}
use Rattle.sy_fit.specs.Verifying.{kind_words}
use Rattle.sy_fit.specs.declared.rows.wanted.RowKind.{RowKind}
use Rattle.sy_report.specs.Reports.{line_feed}
use Rattle.sy_findings.specs.Checks.{KeepsAll, accepted_line}

-- ---- the verdict

-- refused: certificate line L: ROW
abbrev pub wrong_line : ℕ → RowKind → List ℕ
wrong_line line row = codes "refused: certificate line " ++ decimal line ++ codes ": " ++ kind_words row ++ line_feed ∷ []

-- The certificate is fit for the site, which keeps all messages of so many classes.
pub record SaysFitFor (site : Site) (certificate : Certificate) (printed : List ℕ) (is_accepted : Bool) : Type 0 where
  pub count : ℕ
  pub fit : IsFitFor site certificate
  pub keeps : KeepsAll site count
  pub text_is : printed ≡ accepted_line count
  pub accepted : is_accepted ≡ true

-- It isn't: the first line has another version than the site's policy, or the first wrong row stands in this line and is of this kind.
pub record SaysWrongIn (site : Site) (certificate : Certificate) (printed : List ℕ) (is_accepted : Bool) : Type 0 where
  pub line : ℕ
  pub row : RowKind
  pub wrong : IsWrongFor site certificate line row
  pub unfit : IsFitFor site certificate → ⊥
  pub text_is : printed ≡ wrong_line line row
  pub refused : is_accepted ≡ false

abbrev pub SaysOf : Site → Certificate → List ℕ → Bool → Type 0
SaysOf site certificate printed is_accepted = SaysFitFor site certificate printed is_accepted ⊎ SaysWrongIn site certificate printed is_accepted
