-- Verdicts behind what is told with options.
use Rattle.std.proofs.Common.{◌≡◌, ℕ, Bool, List, inl, inr, refl}
use Rattle.std.specs.Prelude.{Err, IfOk, Ok, Result, false, true}
use Rattle.sy_site.specs.Sites.{Site}
use Rattle.sy_cert.specs.CertificateValue.{Certificate}
use Rattle.sy_site.specs.Finding.{IsTrueFinding}
use Rattle.sy_fit.specs.Fit.{IsFitFor, IsWrongFor}
use Rattle.sy_site.specs.declared.finding.Finding.{Finding}
use Rattle.sy_fit.specs.declared.verifying.CertFault.{CertFault}
use Rattle.sy_fit.specs.declared.rows.wanted.RowKind.{RowKind}
use Rattle.sy_commands.specs.Checks.{IsVerdict, SaysCertifiedInWords, SaysExplained, SaysFoundInWords}
use Rattle.sy_findings.specs.Checks.{IsTextOf, KeepsAll, SaysCertified, SaysChecked, accepted_line, finding_text}
use Rattle.sy_findings.specs.Verdicts.{SaysOf, wrong_line}
use Rattle.sy_report.specs.declared.outcome.answer.Answer.{Answer}
use Rattle.sy_report.specs.declared.command_line.command.Asked.TheVariants as asked
use Rattle.sy_report.specs.declared.outcome.halt.Halt.{Halt}

-- ---- what is found

pub found_checked : (site : Site) (f : Finding) (is_accepted : Bool) → IsTrueFinding site f → is_accepted ≡ false
    → (bare : List ℕ) × SaysChecked site bare is_accepted
found_checked site f is_accepted is_true refused =
    (finding_text site f, inr (record { found = f; is_true = is_true; text_is = refl; refused = refused }))

pub found_certified : (site : Site) (f : Finding) (is_accepted : Bool) → IsTrueFinding site f → is_accepted ≡ false
    → (bare : List ℕ) × SaysCertified site bare is_accepted
found_certified site f is_accepted is_true refused =
    (finding_text site f, inr (record { found = f; is_true = is_true; text_is = refl; refused = refused }))

pub refused_checked : (site : Site) (f : Finding) (r : Result Answer Halt) → IsTrueFinding site f → IfOk r (λ a. a.is_accepted ≡ false)
    → IfOk r (λ a. (bare : List ℕ) × SaysChecked site bare a.is_accepted)
refused_checked site f (Ok a) is_true refused = found_checked site f a.is_accepted is_true refused
refused_checked site f (Err why) is_true refused = tt

pub refused_certified : (site : Site) (f : Finding) (r : Result Answer Halt) → IsTrueFinding site f → IfOk r (λ a. a.is_accepted ≡ false)
    → IfOk r (λ a. (bare : List ℕ) × SaysCertified site bare a.is_accepted)
refused_certified site f (Ok a) is_true refused = found_certified site f a.is_accepted is_true refused
refused_certified site f (Err why) is_true refused = tt

-- ---- what is found, in words

pub found_said : (site : Site) (r : Result Answer Halt) → IfOk r (λ a. SaysFoundInWords site a.text.items a.is_accepted)
    → IfOk r (λ a. IsVerdict asked.Certify site a.is_accepted)
found_said site (Ok a) says = found_certified site says.found a.is_accepted says.is_true says.refused
found_said site (Err why) says = tt

pub found_in_words : (site : Site) (r : Result Answer Halt) → IfOk r (λ a. SaysFoundInWords site a.text.items a.is_accepted)
    → IfOk r (λ a. SaysCertifiedInWords site a.text.items a.is_accepted)
found_in_words site (Ok a) says = inr says
found_in_words site (Err why) says = tt

pub explained_said : (site : Site) (r : Result Answer Halt) → IfOk r (λ a. SaysExplained site a.text.items a.is_accepted)
    → IfOk r (λ a. IsVerdict asked.Check site a.is_accepted)
explained_said site (Ok a) (inl kept) = (a.text.items, inl kept)
explained_said site (Ok a) (inr says) = found_checked site says.found a.is_accepted says.is_true says.refused
explained_said site (Err why) says = tt

-- ---- a certificate that is fit

pub fit_certified : (site : Site) (certificate : Certificate) (r : Result Answer Halt) → IsFitFor site certificate
    → IfOk r (λ a. (bare : List ℕ) × IsTextOf bare certificate) → IfOk r (λ a. a.is_accepted ≡ true)
    → IfOk r (λ a. (bare : List ℕ) × SaysCertified site bare a.is_accepted)
fit_certified site certificate (Ok a) fit text accepted =
    (text.0, inl (record { certificate = certificate; fit = fit; is_text = text.1; accepted = accepted }))
fit_certified site certificate (Err why) fit text accepted = tt

pub fit_said : (site : Site) (certificate : Certificate) (r : Result Answer Halt) → IsFitFor site certificate
    → IfOk r (λ a. IsTextOf a.text.items certificate) → IfOk r (λ a. a.is_accepted ≡ true)
    → IfOk r (λ a. IsVerdict asked.Certify site a.is_accepted)
fit_said site certificate (Ok a) fit text accepted =
    (a.text.items, inl (record { certificate = certificate; fit = fit; is_text = text; accepted = accepted }))
fit_said site certificate (Err why) fit text accepted = tt

pub fit_in_words : (site : Site) (certificate : Certificate) (r : Result Answer Halt) → IsFitFor site certificate
    → IfOk r (λ a. IsTextOf a.text.items certificate) → IfOk r (λ a. a.is_accepted ≡ true)
    → IfOk r (λ a. SaysCertifiedInWords site a.text.items a.is_accepted)
fit_in_words site certificate (Ok a) fit text accepted =
    inl (record { certificate = certificate; fit = fit; is_text = text; accepted = accepted })
fit_in_words site certificate (Err why) fit text accepted = tt

-- ---- the verdict on a certificate

pub kept_said : (site : Site) (certificate : Certificate) (count : ℕ) (r : Result Answer Halt) → IsFitFor site certificate → KeepsAll site count
    → IfOk r (λ a. a.is_accepted ≡ true) → IfOk r (λ a. (bare : List ℕ) × SaysOf site certificate bare a.is_accepted)
kept_said site certificate count (Ok a) fit keeps accepted =
    (accepted_line count, inl (record { count = count; fit = fit; keeps = keeps; text_is = refl; accepted = accepted }))
kept_said site certificate count (Err why) fit keeps accepted = tt

pub wrong_said : (site : Site) (certificate : Certificate) (line : ℕ) (row : RowKind) (r : Result Answer Halt) → IsWrongFor site certificate line row
    → (IsFitFor site certificate → ⊥) → IfOk r (λ a. a.is_accepted ≡ false) → IfOk r (λ a. (bare : List ℕ) × SaysOf site certificate bare a.is_accepted)
wrong_said site certificate line row (Ok a) wrong unfit refused =
    (wrong_line line row, inr (record { line = line; row = row; wrong = wrong; unfit = unfit; text_is = refl; refused = refused }))
wrong_said site certificate line row (Err why) wrong unfit refused = tt

pub wrong_or_memory : {line : ℕ} {row : RowKind} → CertFault.Wrong line row ≡ CertFault.NoMemory → ⊥
wrong_or_memory e = cc
