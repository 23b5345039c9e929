-- How a command over a site answers where it has nothing to print.
use Rattle.std.proofs.Common.{◌≡◌, ℕ, Bool, List, inl, inr, sym, subst}
use Rattle.std.specs.Prelude.{IfErr, IfOk, Option, Some, Result, Ok, Err, ◌⊎◌}
use Rattle.sy_site.specs.Sites.{Site}
use Rattle.sy_report.specs.HaltTexts.{halt_report}
use Rattle.sy_commands.specs.Outcomes.{AnswersOf}
use Rattle.sy_report.specs.Outcomes.{Prints}
use Rattle.sy_report.specs.Reports.{Streams, HasReported}
use Rattle.sy_commands.specs.SiteFiles.{HasNoAnswer}
use Rattle.sy_places.specs.SiteFiles.{IsSiteOf}
use Rattle.sy_cert.specs.declared.fault.TextFault.{TextFault}
use Rattle.sy_commands.specs.Verdicts.{IsFaultyCertificate, SaysOfFiles, VerifyIs}
use Rattle.sy_report.specs.declared.outcome.answer.Answer.{Answer}
use Rattle.sy_report.specs.declared.outcome.halt.Halt.{Halt}
use Rattle.sy_report.specs.declared.outcome.halt.Halt.TheVariants as halt
use Rattle.sy_places.specs.Halts.{IsNoSite, IsReadHalt}
use Rattle.sy_report.specs.Halts.{status_at}
use Rattle.sy_commands.specs.internal.Unverified.{HasNoVerdict, IsNoCertificate}
use Rattle.sy_commands.proofs.Courses.{no_site}

-- there is no site, which is told
pub site_gone : (bytes_of : List ℕ → Option (List ℕ)) (site : List ℕ) (why : Halt) (status : ℕ) (IsReported : List ℕ → Type 0)
    → IsNoSite bytes_of site why → status ≡ status_at why → IsReported (halt_report why) → HasNoAnswer bytes_of site status IsReported
site_gone bytes_of site why status IsReported none is reported =
    subst (λ (s : ℕ). HasNoAnswer bytes_of site s IsReported) (sym is) (no_site bytes_of site why IsReported none reported)

-- what a command over one site answers
pub answered : (Says : Site → List ℕ → Bool → Type 0) (bytes_of : List ℕ → Option (List ℕ)) (name text : List ℕ)
    (answer : Result Answer Halt) (status : ℕ) (old new : Streams)
    → IfOk answer (λ a. (t : List ℕ) → bytes_of name ≡ Some t → (site : Site) × IsSiteOf bytes_of t site × Says site a.text.items a.is_accepted)
    → IfErr answer (λ why. (t : List ℕ) → bytes_of name ≡ Some t → IsNoSite bytes_of t why)
    → IfOk answer (λ a. Prints a.text.items a.is_accepted status old new)
    → IfErr answer (λ why. (status ≡ status_at why) × (new.output ≡ old.output) × HasReported old new (halt_report why))
    → bytes_of name ≡ Some text → AnswersOf Says bytes_of text status old new
answered Says bytes_of name text (Ok a) status old new ok err printed stopped known =
    let said = ok text known in
    inl (said.0, said.1, a.text.items, a.is_accepted, said.2, printed)
answered Says bytes_of name text (Err why) status old new ok err printed stopped known =
    inr (site_gone bytes_of text why status (HasReported old new) (err text known) stopped.0 stopped.2, stopped.1)

-- no verdict on a certificate, which is told
module _ (bytes_of : List ℕ → Option (List ℕ)) (site text : List ℕ) (status : ℕ) (IsReported : List ℕ → Type 0) where
  abbrev NoVerdict : Type 0
  NoVerdict =
      ((status ≡ 2) × (fault : TextFault) × IsFaultyCertificate bytes_of site text fault × IsReported (halt_report (halt.Certificate fault)))
      ⊎ HasNoAnswer bytes_of site status IsReported

  gone : (why : Halt) → IsNoSite bytes_of site why → status ≡ status_at why → IsReported (halt_report why) → NoVerdict
  gone why none is reported = inr (site_gone bytes_of site why status IsReported none is reported)

  pub no_verdict_reported : (why : Halt) → HasNoVerdict bytes_of site text why → status ≡ status_at why → IsReported (halt_report why) → NoVerdict
  no_verdict_reported (halt.Certificate fault) none is reported = inl (is, fault, none, reported)
  no_verdict_reported (halt.Site fault) none is reported = gone (halt.Site fault) none is reported
  no_verdict_reported (halt.Line n) none is reported = gone (halt.Line n) none is reported
  no_verdict_reported (halt.Illegal n) none is reported = gone (halt.Illegal n) none is reported
  no_verdict_reported (halt.TotalsFull n) none is reported = gone (halt.TotalsFull n) none is reported
  no_verdict_reported halt.NoMemory none is reported = gone halt.NoMemory none is reported
  no_verdict_reported halt.ReadFailed none is reported = gone halt.ReadFailed none is reported
  no_verdict_reported halt.WriteFailed none is reported = gone halt.WriteFailed none is reported

pub no_verdict : (bytes_of : List ℕ → Option (List ℕ)) (site text : List ℕ) (old new : Streams) (status : ℕ) → new.output ≡ old.output → (why : Halt)
    → HasNoVerdict bytes_of site text why → status ≡ status_at why → HasReported old new (halt_report why) → VerifyIs bytes_of site text status old new
no_verdict bytes_of site text old new status same why none is reported =
    inr (same, no_verdict_reported bytes_of site text status (HasReported old new) why none is reported)

-- where the site isn't read there is no verdict
pub site_unread : (bytes_of : List ℕ → Option (List ℕ)) (site text : List ℕ) (why : Halt)
    → IsReadHalt why → IsNoSite bytes_of site why → HasNoVerdict bytes_of site text why
site_unread bytes_of site text (halt.Site fault) kind none = none
site_unread bytes_of site text (halt.Certificate fault) kind none = absurd kind
site_unread bytes_of site text (halt.Line n) kind none = absurd kind
site_unread bytes_of site text (halt.Illegal n) kind none = absurd kind
site_unread bytes_of site text (halt.TotalsFull n) kind none = absurd kind
site_unread bytes_of site text halt.NoMemory kind none = tt
site_unread bytes_of site text halt.ReadFailed kind none = tt
site_unread bytes_of site text halt.WriteFailed kind none = absurd kind

-- nor where the certificate isn't
pub certificate_unread : (bytes_of : List ℕ → Option (List ℕ)) (text certificate : List ℕ) (site : Site) → IsSiteOf bytes_of text site
    → (why : Halt) → IsNoCertificate certificate why → HasNoVerdict bytes_of text certificate why
certificate_unread bytes_of text certificate site is_site (halt.Certificate fault) none = record { site = site; is_site = is_site; has_fault = none }
certificate_unread bytes_of text certificate site is_site (halt.Site fault) none = absurd none
certificate_unread bytes_of text certificate site is_site (halt.Line n) none = absurd none
certificate_unread bytes_of text certificate site is_site (halt.Illegal n) none = absurd none
certificate_unread bytes_of text certificate site is_site (halt.TotalsFull n) none = absurd none
certificate_unread bytes_of text certificate site is_site halt.NoMemory none = tt
certificate_unread bytes_of text certificate site is_site halt.ReadFailed none = tt
certificate_unread bytes_of text certificate site is_site halt.WriteFailed none = absurd none

-- what a verify answers
pub judged : (bytes_of : List ℕ → Option (List ℕ)) (name other site text : List ℕ)
    (answer : Result Answer Halt) (status : ℕ) (old new : Streams)
    → IfOk answer (λ a. (s t : List ℕ) → bytes_of name ≡ Some s → bytes_of other ≡ Some t → SaysOfFiles bytes_of s t a.text.items a.is_accepted)
    → IfErr answer (λ why. (s t : List ℕ) → bytes_of name ≡ Some s → bytes_of other ≡ Some t → HasNoVerdict bytes_of s t why)
    → IfOk answer (λ a. Prints a.text.items a.is_accepted status old new)
    → IfErr answer (λ why. (status ≡ status_at why) × (new.output ≡ old.output) × HasReported old new (halt_report why))
    → bytes_of name ≡ Some site → bytes_of other ≡ Some text → VerifyIs bytes_of site text status old new
judged bytes_of name other site text (Ok a) status old new ok err printed stopped is_site is_text =
    inl (a.text.items, a.is_accepted, ok site text is_site is_text, printed)
judged bytes_of name other site text (Err why) status old new ok err printed stopped is_site is_text =
    no_verdict bytes_of site text old new status stopped.1 why (err site text is_site is_text) stopped.0 stopped.2
