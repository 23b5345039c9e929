-- The example site with its files in memory, and what its commands show where they end with 0 (this profile's own).
use Rattle.std.specs.Prelude.{◌≡◌, ℕ, true, List, [], ◌∷◌, ◌++◌, Option, codes}
use Rattle.std.specs.Io.KnownBytes.{Appends}
use Rattle.sy_cert.specs.CertificateValue.{Certificate}
use Rattle.sy_fit.specs.Fit.{IsFitFor}
use Rattle.sy_site.specs.Sites.{Site}
use Rattle.sy_site.specs.texts.Describes.{file, Describes, File, file_named}
use Rattle.sy_site.specs.machine.Soundness.{IsSound}
use Rattle.sy_findings.specs.Checks.{IsTextOf, KeepsAll, accepted_line}
use Rattle.sy_commands.specs.Replays.{Ending, Replays, lines_of, opened}
use Rattle.sy_report.specs.Reports.{Streams}
use Rattle.syc.specs.declared.examples.TheConstants.{CERTIFICATE, EDGE, EVENTS, HUB, SITE}

-- ---- the files

abbrev pub relay_files : List File
relay_files = file (codes "edge.conf") EDGE.now ∷ file (codes "hub.conf") HUB.now ∷ []

-- the site file, the files of its relays, its certificate, and events
abbrev pub files : List File
files = file (codes "site") SITE.now ∷ (relay_files ++ file (codes "cert") CERTIFICATE.now ∷ file (codes "events") EVENTS.now ∷ [])

abbrev pub bytes_of : List ℕ → Option (List ℕ)
bytes_of name = file_named files name

-- ---- what is shown

-- This text was printed and handed on, and nothing was written to standard error.
pub record Printed (text : List ℕ) (old new : Streams) : Type 0 where
  pub wrote : Appends old.output.contents new.output.contents text
  pub flushed : new.output.is_flushed ≡ true
  pub quiet : new.errors ≡ old.errors

-- The texts describe this site, and no other.
pub record IsTheSite (site : Site) : Type 0 where
  pub describes : Describes SITE.now relay_files site
  pub alone : (other : Site) → Describes SITE.now relay_files other → other ≡ site

-- `accepted: 8 protected classes` was printed. The texts describe one site, and it keeps all messages of eight classes.
pub record IsAccepted (old new : Streams) : Type 0 where
  pub site : Site
  pub is : IsTheSite site
  pub keeps : KeepsAll site 8
  pub printed : Printed (accepted_line 8) old new

-- The text of a certificate was printed, which is fit for the one site that the texts describe: so that is sound.
pub record IsCertified (old new : Streams) : Type 0 where
  pub site : Site
  pub is : IsTheSite site
  pub certificate : Certificate
  pub fit : IsFitFor site certificate
  pub sound : IsSound site
  pub text : List ℕ
  pub is_text : IsTextOf text certificate
  pub printed : Printed text old new

-- The certificate is fit for the one site that the texts describe.
pub record IsVerified : Type 0 where
  pub site : Site
  pub is : IsTheSite site
  pub certificate : Certificate
  pub is_text : IsTextOf CERTIFICATE.now certificate
  pub fit : IsFitFor site certificate

-- Each line of the events was skipped or is a step of the one site that the texts describe, and what that prints was printed and handed on.
pub record IsReplayed (old new : Streams) : Type 0 where
  pub site : Site
  pub is : IsTheSite site
  pub out : List ℕ
  pub replays : Replays site 1 0 (opened site) (lines_of EVENTS.now) out Ending.Done
  pub wrote : Appends old.output.contents new.output.contents out
  pub flushed : new.output.is_flushed ≡ true
