-- A configuration that was printed with status 0 is that of a sound relay.
use Rattle.std.proofs.Common.{◌≡◌, ◌≢◌, ℕ, Bool, true, false, List, ◌++◌, inl, inr, refl, subst, arith}
use Rattle.std.specs.Io.KnownBytes.{Appends}
use Rattle.std.specs.Prelude.{IfErr, IfOk, Result, Ok, Err}
use Rattle.sy_report.specs.Outcomes.{Prints}
use Rattle.sy_report.specs.Reports.{Streams}
use Rattle.sy_report.specs.declared.outcome.answer.Answer.{Answer}
use Rattle.sy_report.specs.declared.outcome.halt.Halt.{Halt}
use Rattle.sy_survey.specs.Converting.{IsRelay, IsSoundText}

accepted : (P : Type 0) (text : List ℕ) (is_accepted : Bool) (status : ℕ) (old new : Streams) → (is_accepted ≡ true → P)
    → Prints text is_accepted status old new → status ≡ 0 → P × Appends old.output.contents new.output.contents text
accepted P text true status old new holds (inl printed) zero = (holds refl, printed.1)
accepted P text false status old new holds (inl printed) zero = absurd (omega (arith, printed.0, zero))
accepted P text is_accepted status old new holds (inr torn) zero = absurd (omega (arith, torn.0, zero))

pub relay_printed : (selector text : List ℕ) (answer : Result Answer Halt) (status : ℕ) (old new : Streams)
    → IfOk answer (λ a. (rest : List ℕ) × (a.text.items ≡ text ++ rest)) → IfOk answer (λ a. a.is_accepted ≡ true → IsSoundText selector text)
    → IfOk answer (λ a. Prints a.text.items a.is_accepted status old new) → IfErr answer (λ _. status ≢ 0) → status ≡ 0
    → IsRelay selector text (Appends old.output.contents new.output.contents)
relay_printed selector text (Ok a) status old new (rest, same) sound printed failed zero =
    let found = accepted (IsSoundText selector text) a.text.items a.is_accepted status old new sound printed zero in
    record {
      behind = rest;
      written = subst (Appends old.output.contents new.output.contents) same found.1;
      relay = found.0;
    }
relay_printed selector text (Err halt) status old new texts sound printed failed zero = absurd (failed zero)
