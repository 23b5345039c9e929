-- What the commands over a site report (this profile's own).
use Rattle.std.specs.Prelude.{◌≡◌, ℕ, List, Option, Some, false}
use Rattle.sy_report.specs.Reports.{Streams}
use Rattle.sy_report.specs.declared.command_line.options.Options.{Options}
use Rattle.sy_commands.specs.Checks.{AskedReport}
use Rattle.sy_commands.specs.Graphs.{GraphIs}
use Rattle.sy_commands.specs.Replays.{ReplayReport}
use Rattle.sy_commands.specs.Verdicts.{VerifyReport}
use Rattle.sy_commands.specs.Words.{OverSite}

-- What a command over a site prints where it has these options, and these are the bytes of its files. Of a document nothing is said.
abbrev pub SaysReport : (List ℕ → Option (List ℕ)) → Options → OverSite → ℕ → Streams → Streams → Type 0
SaysReport bytes_of options (OverSite.Ask question site) status old new =
    options.json ≡ false → (text : List ℕ) → bytes_of site ≡ Some text → AskedReport question options bytes_of text status old new
SaysReport bytes_of options (OverSite.Replay site events) status old new =
    options.json ≡ false → (text input : List ℕ) → bytes_of site ≡ Some text → bytes_of events ≡ Some input
    → ReplayReport options bytes_of text input status old new
SaysReport bytes_of options (OverSite.Verify site certificate) status old new =
    options.json ≡ false → (site_text text : List ℕ) → bytes_of site ≡ Some site_text → bytes_of certificate ≡ Some text
    → VerifyReport options bytes_of site_text text status old new
SaysReport bytes_of options (OverSite.Draw class site) status old new =
    (text : List ℕ) → bytes_of site ≡ Some text → GraphIs class bytes_of text status old new
