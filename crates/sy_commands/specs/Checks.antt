-- What a check of a site prints, and what a making of its certificate prints (this profile's own).
use Rattle.std.specs.Prelude.{◌≡◌, ℕ, Bool, true, false, ◌⊎◌, List, [], ◌++◌, Option}
use Rattle.sy_site.specs.Sites.{Site}
use Rattle.sy_site.specs.machine.Soundness.{IsSound}
use Rattle.sy_site.specs.Finding.{IsTrueFinding, words}
use Rattle.sy_site.specs.declared.finding.Finding.{Finding}
use Rattle.sy_cert.specs.Rows.{text}
use Rattle.sy_checker.specs.declared.kinds.groups.Group.{Group}
use Rattle.sy_checker.specs.Survey.{IsSurvey}
use Rattle.sy_report.specs.declared.command_line.command.Asked.{Asked}
use Rattle.sy_report.specs.declared.command_line.options.Options.{Options}
use Rattle.sy_report.specs.Reports.{Streams}
use Rattle.sy_findings.specs.Checks.{finding_text, IsTally, IsTallyInWords, SaysKept, SaysFit, SaysChecked, SaysCertified}
use Rattle.sy_commands.specs.Outcomes.{AnswersReporting, AnswersOf}
use Rattle.sy_commands.specs.Reports.{HasReportedBy}
use Rattle.sy_commands.specs.Words.{is_any}
use Rattle.sy_report.specs.declared.command_line.command.Asked.TheVariants as asked

-- what is found in it, and words for people behind that, of which nothing is said
pub record SaysFoundInWords (site : Site) (text : List ℕ) (is_accepted : Bool) : Type 0 where
  pub found : Finding
  pub words : List ℕ
  pub is_true : IsTrueFinding site found
  pub text_is : text ≡ finding_text site found ++ words
  pub refused : is_accepted ≡ false

-- It isn't sound, and this is all that is found in it.
pub record SaysSurvey (site : Site) (text : List ℕ) (is_accepted : Bool) : Type 0 where
  pub groups : List Group
  pub is_survey : IsSurvey site groups
  pub unsound : IsSound site → ⊥
  pub is_tally : IsTally site groups text
  pub refused : is_accepted ≡ false

-- It isn't sound, and this is all that is found in it, with words on each.
pub record SaysSurveyInWords (site : Site) (text : List ℕ) (is_accepted : Bool) : Type 0 where
  pub groups : List Group
  pub is_survey : IsSurvey site groups
  pub unsound : IsSound site → ⊥
  pub is_tally : IsTallyInWords site groups text
  pub refused : is_accepted ≡ false

-- what a check that explains says
abbrev pub SaysExplained : Site → List ℕ → Bool → Type 0
SaysExplained site text is_accepted = SaysKept site text is_accepted ⊎ SaysFoundInWords site text is_accepted

-- what a check that tells all says
abbrev pub SaysAll : Site → List ℕ → Bool → Type 0
SaysAll site text is_accepted = SaysKept site text is_accepted ⊎ SaysSurvey site text is_accepted

-- what a check that tells and explains all says
abbrev pub SaysAllInWords : Site → List ℕ → Bool → Type 0
SaysAllInWords site text is_accepted = SaysKept site text is_accepted ⊎ SaysSurveyInWords site text is_accepted

-- what is said of a site, by what is asked
abbrev pub Says : Asked → Site → List ℕ → Bool → Type 0
Says asked.Check = SaysChecked
Says asked.Certify = SaysCertified

-- a text of that site and that question has this verdict
abbrev pub IsVerdict : Asked → Site → Bool → Type 0
IsVerdict question site is_accepted = (bare : List ℕ) × Says question site bare is_accepted

-- what a check with options says, but for a document
abbrev pub SaysBy : (is_explained reports_all : Bool) → Site → List ℕ → Bool → Type 0
SaysBy false false = SaysChecked
SaysBy true false = SaysExplained
SaysBy false true = SaysAll
SaysBy true true = SaysAllInWords

abbrev pub SaysInWords : Options → Site → List ℕ → Bool → Type 0
SaysInWords options = SaysBy options.explain options.all

-- The text is what a check with these options says, and more for people behind it where it explains.
abbrev pub BeginsInWords : Options → Site → List ℕ → Bool → Type 0
BeginsInWords options site text is_accepted =
    (said more : List ℕ) × (text ≡ said ++ more) × (options.explain ≡ false → more ≡ []) × SaysInWords options site said is_accepted

-- what a making of its certificate says that explains
abbrev pub SaysCertifiedInWords : Site → List ℕ → Bool → Type 0
SaysCertifiedInWords site text is_accepted = SaysFit site text is_accepted ⊎ SaysFoundInWords site text is_accepted

-- what a making of its certificate says, explained or not
abbrev pub SaysCertifiedBy : (is_explained : Bool) → Site → List ℕ → Bool → Type 0
SaysCertifiedBy false = SaysCertified
SaysCertifiedBy true = SaysCertifiedInWords

-- what is said of a site with options, but for a document, by what is asked
abbrev pub SaysWith : Asked → Options → Site → List ℕ → Bool → Type 0
SaysWith asked.Check options = BeginsInWords options
SaysWith asked.Certify options = SaysCertifiedBy options.explain

-- ---- the commands

-- What a command over one site answers, with this site file.
abbrev pub AskedIs : Asked → (List ℕ → Option (List ℕ)) → List ℕ → ℕ → Streams → Streams → Type 0
AskedIs question = AnswersOf (Says question)

-- The same with any options, or none, where the line that says why there is no answer stands alone.
abbrev pub AskedReport : Asked → Options → (List ℕ → Option (List ℕ)) → List ℕ → ℕ → Streams → Streams → Type 0
AskedReport question options bytes_of text status old new =
    AnswersReporting (HasReportedBy (is_any options) old new) (SaysWith question options) bytes_of text status old new
