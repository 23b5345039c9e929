-- What a command over a site answers that has options (this profile's own).
use Rattle.std.specs.Prelude.{◌≡◌, ℕ, Bool, List, ◌∷◌, ◌⊎◌, Option, Some}
use Rattle.std.specs.List.{Any}
use Rattle.sy_wire.specs.Streams.{Rose}
use Rattle.sy_site.specs.texts.Files.{file_names}
use Rattle.sy_report.specs.Reports.{Streams}
use Rattle.sy_report.specs.HaltTexts.{halt_report}
use Rattle.sy_report.specs.declared.outcome.halt.Halt.{Halt}
use Rattle.sy_report.specs.Halts.{status_at}
use Rattle.sy_commands.specs.Checks.{AskedIs}
use Rattle.sy_commands.specs.Outcomes.{FailsBy, MayEnd}
use Rattle.sy_commands.specs.Replays.{ReplayIs}
use Rattle.sy_commands.specs.Verdicts.{DescribesKept, VerifyIs}
use Rattle.sy_commands.specs.Words.{OverSite}
use Rattle.sy_commands.specs.Reports.{HasReportedBy}
use Rattle.sy_report.specs.declared.command_line.command.Asked.TheVariants as asked
use Rattle.sy_report.specs.declared.outcome.halt.Halt.TheVariants as halt

-- The exit status is one that the command without options answers over these files. A drawing has no options.
abbrev pub EndsAs : (List ℕ → Option (List ℕ)) → OverSite → ℕ → Type 0
EndsAs bytes_of (OverSite.Ask question site) status =
    (text : List ℕ) → bytes_of site ≡ Some text → MayEnd (AskedIs question bytes_of text) status
EndsAs bytes_of (OverSite.Replay site events) status =
    (text input : List ℕ) → bytes_of site ≡ Some text → bytes_of events ≡ Some input → MayEnd (ReplayIs bytes_of text input) status
EndsAs bytes_of (OverSite.Verify site certificate) status =
    (site_text text : List ℕ) → bytes_of site ≡ Some site_text → bytes_of certificate ≡ Some text → MayEnd (VerifyIs bytes_of site_text text) status
EndsAs bytes_of (OverSite.Draw class site) status = Unit {0}

-- Status 4 has the same causes as there.
abbrev pub FailsAs : (List ℕ → Option (List ℕ)) → (List ℕ → Type 0) → (List ℕ → Type 0) → OverSite → ℕ → Streams → Streams → Type 0
FailsAs bytes_of MayFail PiecesFail (OverSite.Ask question site) status old new =
    (text : List ℕ) → bytes_of site ≡ Some text → FailsBy (Any MayFail (site ∷ file_names text)) status old new
FailsAs bytes_of MayFail PiecesFail (OverSite.Replay site events) status old new =
    (text input : List ℕ) → bytes_of site ≡ Some text → bytes_of events ≡ Some input
    → FailsBy (Any MayFail (site ∷ events ∷ file_names text) ⊎ PiecesFail input) status old new
FailsAs bytes_of MayFail PiecesFail (OverSite.Verify site certificate) status old new =
    (text : List ℕ) → bytes_of site ≡ Some text → FailsBy (Any MayFail (site ∷ certificate ∷ file_names text)) status old new
FailsAs bytes_of MayFail PiecesFail (OverSite.Draw class site) status old new =
    (text : List ℕ) → bytes_of site ≡ Some text → FailsBy (Any MayFail (site ∷ file_names text)) status old new

-- A check that ends with 0 shows that the site is kept, and so does a verify, whatever the certificate's bytes are. Of the other commands nothing is
-- said here.
abbrev pub KeepsAs : (List ℕ → Option (List ℕ)) → OverSite → ℕ → Type 0
KeepsAs bytes_of (OverSite.Verify site certificate) status = (text : List ℕ) → bytes_of site ≡ Some text → status ≡ 0 → DescribesKept bytes_of text
KeepsAs bytes_of (OverSite.Ask asked.Check site) status = (text : List ℕ) → bytes_of site ≡ Some text → status ≡ 0 → DescribesKept bytes_of text
KeepsAs bytes_of _ status = Unit {0}

-- The document of a halt was printed, and no write failed; or memory ran out for it, or a write of it failed.
abbrev pub DocumentEnds : Halt → Halt → ℕ → ℕ → Type 0
DocumentEnds why end before after =
    ((end ≡ why) × (after ≡ before)) ⊎ ((end ≡ halt.NoMemory) × (after ≡ before)) ⊎ ((end ≡ halt.WriteFailed) × Rose before after)

-- the status of a halt; or memory ran out for its document, or a write of it failed
abbrev pub HaltEnds : Halt → ℕ → ℕ → ℕ → Type 0
HaltEnds why status before after = (end : Halt) × (status ≡ status_at end) × DocumentEnds why end before after

-- It ends with the status of the halt, whose line is told, alone or with more after it, and standard output is as before.
pub record StopsBy (reports_more : Bool) (why : Halt) (status : ℕ) (old new : Streams) : Type 0 where
  pub status_is : status ≡ status_at why
  pub reported : HasReportedBy reports_more old new (halt_report why)
  pub same : new.output ≡ old.output
