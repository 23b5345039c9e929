-- What a reader answers, from what it saw.
use Rattle.std.proofs.Common.{◌≡◌, ℕ, ◌+◌, ◌==◌, true, false, List, [], ◌∷◌, ◌++◌, ◌⊎◌, length, refl, sym, ap, subst, ◌∙◌, inl, inr, arith, eqb-true}
use Rattle.std.proofs.lemmas.Bool.{true≢false}
use Rattle.sy_cert.specs.declared.fault.FaultCode.{FaultCode}
use Rattle.sy_cert.specs.declared.fault.FaultCode.TheVariants as code
use Rattle.sy_cert.specs.declared.row.Row.{Row}
use Rattle.sy_cert.specs.Faults.{BeginsWith, HasFault, IsRefused, Lacks, words_in}
use Rattle.sy_cert.specs.internal.Reading.{IsCut, IsNotTaken}
use Rattle.std.proofs.lemmas.List.{append-nil}
use Rattle.sy_cert.specs.Rows.{IsCertificate, last_kind, text}
use Rattle.sy_cert.proofs.Uniqueness.{no_fault, one_text}

-- a certificate without rows, of the version that the first line says
pub begun : (bytes rest : List ℕ) (said version : ℕ) (rows : List Row) → version ≡ said → rows ≡ [] → BeginsWith bytes said [] rest
    → BeginsWith bytes version rows rest
begun bytes rest said version rows is none b =
    subst (λ v. BeginsWith bytes v rows rest) (sym is) (subst (λ rs. BeginsWith bytes said rs rest) (sym none) b)

abbrev pub Refusal : List ℕ → FaultCode → ℕ → Type 0
Refusal bytes c n = ((c ≡ code.NoMemory) × IsRefused bytes n) ⊎ HasFault bytes c n

-- a row that is not taken
pub faulty : (bytes : List ℕ) (version : ℕ) (rows seen : List Row) (rest line later : List ℕ) (c : FaultCode) → BeginsWith bytes version rows rest
    → IsCut 10 rest line later → IsNotTaken version (last_kind rows) (words_in line) c → seen ≡ rows → Refusal bytes c (length seen + 2)
faulty bytes version rows seen rest line later c b cut why same = subst (λ rs. Refusal bytes c (length rs + 2)) (sym same) (by c why)
  where
    begins : BeginsWith bytes version rows (line ++ 10 ∷ later)
    begins = subst (BeginsWith bytes version rows) cut.whole b

    by : (c : FaultCode) → IsNotTaken version (last_kind rows) (words_in line) c → Refusal bytes c (length rows + 2)
    by code.Line h = inr (HasFault.faulty version rows line later code.Line begins cut.lacks h)
    by code.Order h = inr (HasFault.faulty version rows line later code.Order begins cut.lacks h)
    by code.Number h = inr (HasFault.faulty version rows line later code.Number begins cut.lacks h)
    by code.NoMemory h = inl (refl, record { version = version; rows = rows; line = line; later = later; begins = begins; place_is = refl })

-- a line that isn't ended
pub open_line : (bytes : List ℕ) (version : ℕ) (rows seen : List Row) (rest : List ℕ) → BeginsWith bytes version rows rest → Lacks 10 rest → (rest ≡ [] → ⊥) → seen ≡ rows
    → HasFault bytes code.Line (length seen + 2)
open_line bytes version rows seen [] b lacks some same = absurd (some refl)
open_line bytes version rows seen (x ∷ rest) b lacks some same =
    subst (λ rs. HasFault bytes code.Line (length rs + 2)) (sym same) (HasFault.not_ended version rows x rest b lacks)

-- something is left
pub filled : (rest : List ℕ) → (length rest == 0) ≡ false → rest ≡ [] → ⊥
filled rest some e = true≢false (sym (ap (λ l. length l == 0) e) ∙ some)

-- the text of a certificate: what is read of it, and what is refused
pub same_text : (bytes rest : List ℕ) (version : ℕ) (rows : List Row) → BeginsWith bytes version rows rest → (length rest == 0) ≡ true
    → (other : ℕ) (others : List Row) → IsCertificate other others → bytes ≡ text other others → (version ≡ other) × (rows ≡ others)
same_text bytes [] version rows b end other others are e =
    one_text version other rows others b.certificate are (sym (append-nil (text version rows)) ∙ sym b.whole ∙ e)
same_text bytes (x ∷ rest) version rows b end other others are e = absurd (omega (arith, eqb-true (length (x ∷ rest)) 0 end))

pub not_refused : (bytes : List ℕ) (c : FaultCode) (n : ℕ) → HasFault bytes c n → (version : ℕ) (rows : List Row) → IsCertificate version rows
    → bytes ≡ text version rows → ⊥
not_refused bytes c n fault version rows are e = no_fault version rows c n are (subst (λ t. HasFault t c n) e fault)

pub for_memory : (bytes : List ℕ) (c : FaultCode) (n : ℕ) → Refusal bytes c n → (version : ℕ) (rows : List Row) → IsCertificate version rows
    → bytes ≡ text version rows → c ≡ code.NoMemory
for_memory bytes c n (inl h) version rows are e = h.0
for_memory bytes c n (inr h) version rows are e = absurd (not_refused bytes c n h version rows are e)
