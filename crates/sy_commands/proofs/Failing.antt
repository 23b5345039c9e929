-- Why a command ends with status 4, and that a read leaves less.
use Rattle.std.proofs.Common.{◌≡◌, ℕ, zero, suc, ◌+◌, ◌<◌, ◌⊎◌, inl, inr, Bool, true, false, List, length, refl, sym, ap, subst, ◌∙◌, arith}
use Rattle.std.specs.List.{Any}
use Rattle.std.specs.Prelude.{IfErr, IfOk, Option, Some, None, Result, Ok, Err}
use Rattle.std.proofs.lemmas.List.{length-append}
use Rattle.sy_wire.specs.Streams.{Rose}
use Rattle.sy_site.specs.declared.fault.SiteFault.{SiteFault}
use Rattle.sy_site.specs.declared.fault.SiteFault.TheVariants as site_fault
use Rattle.sy_report.specs.HaltTexts.{halt_report}
use Rattle.sy_commands.specs.Outcomes.{FailsBy}
use Rattle.sy_report.specs.Outcomes.{Prints}
use Rattle.sy_report.specs.Reports.{Streams, HasReported}
use Rattle.sy_report.specs.declared.outcome.answer.Answer.{Answer}
use Rattle.sy_report.specs.declared.outcome.halt.Halt.{Halt}
use Rattle.sy_report.specs.declared.outcome.halt.Halt.TheVariants as halt
use Rattle.sy_commands.specs.internal.Halts.{IsCause, IsShorter, Reads}
use Rattle.sy_places.specs.Halts.{IsUnread}
use Rattle.sy_report.specs.Halts.{status_at}

fault_at : (fault : SiteFault) → status_at (halt.Site fault) ≡ 4 → ⊥
fault_at (site_fault.Line n) is = omega (arith, is)
fault_at (site_fault.Duplicate n) is = omega (arith, is)
fault_at (site_fault.NoFile n) is = omega (arith, is)
fault_at (site_fault.NoSuchEntry n) is = omega (arith, is)
fault_at (site_fault.NoSuchArchive n) is = omega (arith, is)
fault_at (site_fault.NoSuchAction n) is = omega (arith, is)
fault_at (site_fault.SpareArchive n) is = omega (arith, is)
fault_at site_fault.NothingProtected is = omega (arith, is)
fault_at (site_fault.Relay n name why) is = omega (arith, is)
fault_at site_fault.NoMemory is = omega (arith, is)

-- what is stopped for then
pub stops_by : (P : Halt → Type 0) (why : Halt) → status_at why ≡ 4 → P why → P halt.ReadFailed ⊎ P halt.WriteFailed
stops_by P (halt.Site fault) four h = absurd (fault_at fault four)
stops_by P (halt.Certificate fault) four h = absurd (omega (arith, four))
stops_by P (halt.Line n) four h = absurd (omega (arith, four))
stops_by P (halt.Illegal n) four h = absurd (omega (arith, four))
stops_by P (halt.TotalsFull n) four h = absurd (omega (arith, four))
stops_by P halt.NoMemory four h = absurd (omega (arith, four))
stops_by P halt.ReadFailed four h = inl h
stops_by P halt.WriteFailed four h = inr h

pub printing_fails : (text : List ℕ) (is_accepted : Bool) (status : ℕ) (old new : Streams) → Prints text is_accepted status old new → status ≡ 4
    → Rose old.output.faults new.output.faults
printing_fails text true status old new (inl printed) four = absurd (omega (arith, printed.0, four))
printing_fails text false status old new (inl printed) four = absurd (omega (arith, printed.0, four))
printing_fails text is_accepted status old new (inr torn) four = torn.2

-- a command that prints one answer
pub fails_by : (MayFail : List ℕ → Type 0) (Known : List ℕ → Type 0) (names : List ℕ → List (List ℕ)) (answer : Result Answer Halt) (status : ℕ)
    (old new : Streams)
    → IfOk answer (λ a. Prints a.text.items a.is_accepted status old new)
    → IfErr answer (λ why. (status ≡ status_at why) × (new.output ≡ old.output) × HasReported old new (halt_report why))
    → IfErr answer (λ why. (text : List ℕ) → Known text → IsUnread MayFail (names text) why)
    → (text : List ℕ) → Known text → FailsBy (Any MayFail (names text)) status old new
fails_by MayFail Known names (Ok a) status old new printed stopped unread text known =
    λ four. inr (printing_fails a.text.items a.is_accepted status old new printed four)
fails_by MayFail Known names (Err why) status old new printed stopped unread text known = λ four.
    elim (stops_by (IsUnread MayFail (names text)) why (sym stopped.0 ∙ four) (unread text known)) [
      | inl failed ↦ inl failed
      | inr never ↦ absurd never
    ]

-- a replay that stopped before its output was handed on
pub stop_fails : (MayFail : Type 0) (why : Halt) (status old mid new : ℕ) → status ≡ status_at why → new ≡ mid → (why ≡ halt.ReadFailed → MayFail)
    → IsCause why old mid → status ≡ 4 → MayFail ⊎ Rose old new
stop_fails MayFail (halt.Site fault) status old mid new is same unread cause four = absurd (fault_at fault (sym is ∙ four))
stop_fails MayFail (halt.Certificate fault) status old mid new is same unread cause four = absurd (omega (arith, is, four))
stop_fails MayFail (halt.Line n) status old mid new is same unread cause four = absurd (omega (arith, is, four))
stop_fails MayFail (halt.Illegal n) status old mid new is same unread cause four = absurd (omega (arith, is, four))
stop_fails MayFail (halt.TotalsFull n) status old mid new is same unread cause four = absurd (omega (arith, is, four))
stop_fails MayFail halt.NoMemory status old mid new is same unread cause four = absurd (omega (arith, is, four))
stop_fails MayFail halt.ReadFailed status old mid new is same unread cause four = inl (unread refl)
stop_fails MayFail halt.WriteFailed status old mid new is same unread cause four = inr (subst (Rose old) (sym same) cause)

-- ---- events, piece by piece

same_value : {a b : List ℕ} → Some a ≡ Some b → a ≡ b
same_value e = cc

no_value : {a : List ℕ} → None ≡ Some a → ⊥
no_value e = cc

pub shorter_by : (held held' : List ℕ) (count : ℕ) (old new : Option (List ℕ)) → Reads count held held' old new → (count ≡ 0 → ⊥) → IsShorter old new
shorter_by held held' count None new reads some ahead next is is' = absurd (no_value is)
shorter_by held held' count (Some a) None reads some ahead next is is' = absurd (no_value is')
shorter_by held held' count (Some a) (Some b) reads some ahead next is is' =
    let size : length a ≡ count + length b =
    ap (λ l. length l) reads.2.consumed ∙ length-append reads.0 b ∙ ap (λ n. n + length b) reads.2.size in
    let first : length a ≡ length ahead = ap (λ l. length l) (same_value is) in
    let second : length b ≡ length next = ap (λ l. length l) (same_value is') in
    some_more count (length next) (length ahead) some (sym first ∙ size ∙ ap (λ n. count + n) second)
  where
    some_more : (n small large : ℕ) → (n ≡ 0 → ⊥) → large ≡ n + small → small < large
    some_more zero small large some is = absurd (some refl)
    some_more (suc n) small large some is = omega (arith, is)
