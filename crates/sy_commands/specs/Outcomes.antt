-- How a command over a site ends that prints one text (this profile's own).
use Rattle.std.specs.Prelude.{◌≡◌, ℕ, Bool, ◌⊎◌, List, Option}
use Rattle.sy_wire.specs.Streams.{Rose}
use Rattle.sy_site.specs.Sites.{Site}
use Rattle.sy_report.specs.Reports.{Streams, HasReported}
use Rattle.sy_report.specs.Outcomes.{Prints}
use Rattle.sy_places.specs.SiteFiles.{IsSiteOf}
use Rattle.sy_commands.specs.SiteFiles.{HasNoAnswer}

-- What a command over one site answers, where these are the texts that may be printed of a site, with a verdict, and a line is told so. Such a text is
-- printed, of the site that the site file describes; or there is none, and standard output is as before.
abbrev pub AnswersReporting : (List ℕ → Type 0) → (Site → List ℕ → Bool → Type 0) → (List ℕ → Option (List ℕ)) → List ℕ → ℕ → Streams → Streams → Type 0
AnswersReporting IsReported Says bytes_of site_text status old new =
    ((site : Site) × IsSiteOf bytes_of site_text site
    × (text : List ℕ) × (is_accepted : Bool) × Says site text is_accepted × Prints text is_accepted status old new)
    ⊎ (HasNoAnswer bytes_of site_text status IsReported × (new.output ≡ old.output))

-- The line that says why there is none stands alone.
abbrev pub AnswersOf : (Site → List ℕ → Bool → Type 0) → (List ℕ → Option (List ℕ)) → List ℕ → ℕ → Streams → Streams → Type 0
AnswersOf Says bytes_of site_text status old new = AnswersReporting (HasReported old new) Says bytes_of site_text status old new

-- A status with which a command may end that answers so.
pub record MayEnd (Is : ℕ → Streams → Streams → Type 0) (status : ℕ) : Type 0 where
  pub old : Streams
  pub new : Streams
  pub is : Is status old new

-- Status 4 has its cause: something may fail to be read, or a write or a flush failed.
abbrev pub FailsBy : (MayFail : Type 0) → ℕ → Streams → Streams → Type 0
FailsBy MayFail status old new = status ≡ 4 → MayFail ⊎ Rose old.output.faults new.output.faults
