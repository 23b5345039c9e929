-- What a comparison says of a change, and what an exit status says of the answer that was printed, or of why there is none.
use Rattle.std.proofs.Common.{◌≡◌, ◌⊎◌, ℕ, Bool, true, false, List, Option, inl, inr, refl, sym, ap, ◌∙◌, arith}
use Rattle.sy_report.specs.declared.outcome.halt.Halt.{Halt}
use Rattle.sy_report.specs.declared.outcome.halt.Halt.TheVariants as halt
use Rattle.sy_report.specs.Halts.{status_at}
use Rattle.sy_report.specs.Outcomes.{Prints}
use Rattle.sy_report.specs.Reports.{Streams}
use Rattle.sy_diff.specs.Comparisons.{IsComparison, is_empty}
use Rattle.sy_diff.specs.Diffs.{AreFaulty, IsJudged, IsKept, LackASite}
use Rattle.sy_diff.specs.declared.comparison.Comparison.{Comparison}
use Rattle.sy_diff.specs.declared.diff.Wanted.{Wanted}
use Rattle.sy_diff.specs.declared.same.Change.{Change}

-- ---- a comparison

pub judged : (change : Change) (it : Comparison) → IsComparison change it → (is_kept : Bool) → is_kept ≡ is_empty it
    → (is_empty it ≡ true → IsKept change) → IsJudged change is_kept
judged change it is true same kept = kept (sym same)
judged change it is false same kept = record { it = it; is = is; says = sym same }

-- ---- the status of an answer

pub accepted : (is_accepted : Bool) (text : List ℕ) (status : ℕ) (old new : Streams) → Prints text is_accepted status old new → status ≡ 0 → is_accepted ≡ true
accepted true text status old new prints is = refl
accepted false text status old new (inl printed) is = absurd (omega (arith, printed.0, is))
accepted false text status old new (inr torn) is = absurd (omega (arith, torn.0, is))

pub refused : (is_accepted : Bool) (text : List ℕ) (status : ℕ) (old new : Streams) → Prints text is_accepted status old new → status ≡ 1 → is_accepted ≡ false
refused true text status old new (inl printed) is = absurd (omega (arith, printed.0, is))
refused true text status old new (inr torn) is = absurd (omega (arith, torn.0, is))
refused false text status old new prints is = refl

pub never_faulty : (is_accepted : Bool) (text : List ℕ) (status : ℕ) (old new : Streams) → Prints text is_accepted status old new → status ≡ 2 → ⊥
never_faulty true text status old new (inl printed) is = omega (arith, printed.0, is)
never_faulty false text status old new (inl printed) is = omega (arith, printed.0, is)
never_faulty is_accepted text status old new (inr torn) is = omega (arith, torn.0, is)

-- ---- the status where there is none

-- 2 is the status of a fault of a site file
pub faulty : {F : Type 0} (bytes_of : F → List ℕ → Option (List ℕ)) (files : F) (wanted : Wanted) (why : Halt) (status : ℕ)
    → (why ≡ halt.NoMemory) ⊎ LackASite bytes_of files wanted why → status ≡ status_at why → status ≡ 2 → AreFaulty bytes_of files wanted
faulty bytes_of files wanted why status (inl memory) same is = absurd (omega (arith, sym (ap status_at memory) ∙ sym same ∙ is))
faulty bytes_of files wanted why status (inr lack) same is = record { why = why; is_fault = sym same ∙ is; lack = lack }
