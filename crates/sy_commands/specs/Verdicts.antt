-- What a verify of a certificate prints, and the exit status that it answers (this profile's own).
use Rattle.std.specs.Prelude.{◌≡◌, ℕ, Bool, List, ◌⊎◌, Option}
use Rattle.sy_site.specs.Sites.{Site}
use Rattle.sy_site.specs.texts.Files.{file_names}
use Rattle.sy_cert.specs.CertificateValue.{Certificate}
use Rattle.sy_cert.specs.Faults.{HasFault}
use Rattle.sy_cert.specs.declared.fault.TextFault.{TextFault}
use Rattle.sy_report.specs.HaltTexts.{halt_report}
use Rattle.sy_report.specs.Outcomes.{Prints}
use Rattle.sy_report.specs.Reports.{Streams, HasReported}
use Rattle.sy_places.specs.SiteFiles.{IsSiteOf}
use Rattle.sy_findings.specs.Checks.{IsTextOf, KeepsAll}
use Rattle.sy_findings.specs.Verdicts.{SaysOf}
use Rattle.sy_report.specs.declared.command_line.options.Options.{Options}
use Rattle.sy_commands.specs.Reports.{HasReportedBy}
use Rattle.sy_commands.specs.SiteFiles.{HasNoAnswer, HaveBytes}
use Rattle.sy_commands.specs.Words.{is_any}
use Rattle.sy_report.specs.declared.outcome.halt.Halt.TheVariants as halt

-- ---- the files

-- what is said of a certificate's text, for the site that a site file describes with the files of its relays
pub record SaysOfFiles (bytes_of : List ℕ → Option (List ℕ)) (site_text text printed : List ℕ) (is_accepted : Bool) : Type 0 where
  pub site : Site
  pub is_site : IsSiteOf bytes_of site_text site
  pub certificate : Certificate
  pub is_text : IsTextOf text certificate
  pub says : SaysOf site certificate printed is_accepted

-- The site file describes a site, and the other text has a fault of a certificate's text.
pub record IsFaultyCertificate (bytes_of : List ℕ → Option (List ℕ)) (site_text certificate : List ℕ) (fault : TextFault) : Type 0 where
  pub site : Site
  pub is_site : IsSiteOf bytes_of site_text site
  pub has_fault : HasFault certificate fault.code fault.line

-- The site file describes a site, with the files of its relays, and that site keeps all. Where the bytes of all those files are known, it describes no
-- other.
pub record DescribesKept (bytes_of : List ℕ → Option (List ℕ)) (site_text : List ℕ) : Type 0 where
  pub site : Site
  pub is_site : IsSiteOf bytes_of site_text site
  pub count : ℕ
  pub keeps : KeepsAll site count
  pub alone : HaveBytes bytes_of (file_names site_text) → (other : Site) → IsSiteOf bytes_of site_text other → other ≡ site

-- ---- the command

-- What a verify of these files answers, where a line is told so: a verdict; or the certificate's text has a fault, which is told; or there is no site, no
-- memory or no file, which is told. Where there is no verdict, standard output is as before.
abbrev pub VerifiesReporting : (List ℕ → Type 0) → (List ℕ → Option (List ℕ)) → (site_text certificate : List ℕ) → ℕ → Streams → Streams → Type 0
VerifiesReporting IsReported bytes_of site_text certificate status old new =
    ((printed : List ℕ) × (is_accepted : Bool) × SaysOfFiles bytes_of site_text certificate printed is_accepted × Prints printed is_accepted status old new)
    ⊎ ((new.output ≡ old.output) × (
    ((status ≡ 2) × (fault : TextFault) × IsFaultyCertificate bytes_of site_text certificate fault × IsReported (halt_report (halt.Certificate fault)))
    ⊎ HasNoAnswer bytes_of site_text status IsReported))

-- what it answers without options
abbrev pub VerifyIs : (List ℕ → Option (List ℕ)) → (site_text certificate : List ℕ) → ℕ → Streams → Streams → Type 0
VerifyIs bytes_of site_text certificate status old new = VerifiesReporting (HasReported old new) bytes_of site_text certificate status old new

-- The same with any options, or none, where that line stands alone.
abbrev pub VerifyReport : Options → (List ℕ → Option (List ℕ)) → (site_text certificate : List ℕ) → ℕ → Streams → Streams → Type 0
VerifyReport options bytes_of site_text certificate status old new =
    VerifiesReporting (HasReportedBy (is_any options) old new) bytes_of site_text certificate status old new
