-- What a command over a site says that has options (this profile's own).
use Rattle.std.specs.Prelude.{◌≡◌, ℕ, Bool, false, List, Option, Some}
use Rattle.sy_site.specs.Sites.{Site}
use Rattle.sy_report.specs.declared.command_line.command.Asked.{Asked}
use Rattle.sy_report.specs.declared.command_line.options.Options.{Options}
use Rattle.sy_report.specs.Reports.{Streams}
use Rattle.sy_commands.specs.Outcomes.{AnswersReporting}
use Rattle.sy_commands.specs.Reports.{ReportedFirst}
use Rattle.sy_commands.specs.Words.{OverSite}
use Rattle.sy_commands.specs.Checks.{SaysWith}
use Rattle.sy_commands.specs.Replays.{EndsReplay}
use Rattle.sy_commands.specs.Verdicts.{VerifiesReporting}

-- The line was written first, and more may stand behind it.
abbrev pub HasReportedFirst : Streams → Streams → List ℕ → Type 0
HasReportedFirst old new line = ReportedFirst old.errors new.errors line

-- What a command over one site answers where more may stand after the line that says why there is none.
abbrev pub AnswersReportingFirst : (Site → List ℕ → Bool → Type 0) → (List ℕ → Option (List ℕ)) → List ℕ → ℕ → Streams → Streams → Type 0
AnswersReportingFirst Says bytes_of site_text status old new = AnswersReporting (HasReportedFirst old new) Says bytes_of site_text status old new

-- what is answered with options to what is asked of a site, but for a document
abbrev pub AskedInWordsIs : Asked → Options → (List ℕ → Option (List ℕ)) → List ℕ → ℕ → Streams → Streams → Type 0
AskedInWordsIs question options = AnswersReportingFirst (SaysWith question options)

-- The same of a replay: more may stand behind the line that says why it stopped.
abbrev pub ReplayInWordsIs : (List ℕ → Option (List ℕ)) → (site events : List ℕ) → ℕ → Streams → Streams → Type 0
ReplayInWordsIs bytes_of site_text events status old new = EndsReplay bytes_of site_text events status old.output new.output (HasReportedFirst old new)

-- The same of a verify: more may stand behind the line that says why there is no verdict.
abbrev pub VerifyInWordsIs : (List ℕ → Option (List ℕ)) → (site_text certificate : List ℕ) → ℕ → Streams → Streams → Type 0
VerifyInWordsIs bytes_of site_text certificate status old new = VerifiesReporting (HasReportedFirst old new) bytes_of site_text certificate status old new

-- Where no document is wanted it answers the same, with words for people behind what is found in a site, and behind the line that says why it stopped.
abbrev pub SaysAs : (List ℕ → Option (List ℕ)) → Options → OverSite → ℕ → Streams → Streams → Type 0
SaysAs bytes_of options (OverSite.Ask question site) status old new =
    options.json ≡ false → (text : List ℕ) → bytes_of site ≡ Some text → AskedInWordsIs question options bytes_of text status old new
SaysAs bytes_of options (OverSite.Replay site events) status old new =
    options.json ≡ false → (text input : List ℕ) → bytes_of site ≡ Some text → bytes_of events ≡ Some input → ReplayInWordsIs bytes_of text input status old new
SaysAs bytes_of options (OverSite.Verify site certificate) status old new =
    options.json ≡ false → (site_text text : List ℕ) → bytes_of site ≡ Some site_text → bytes_of certificate ≡ Some text
    → VerifyInWordsIs bytes_of site_text text status old new
SaysAs bytes_of options (OverSite.Draw class site) status old new = Unit {0}
