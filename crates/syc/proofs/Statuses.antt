-- What the exit status of a pass says that found no memory.
use Rattle.std.proofs.Common.{◌≡◌, ◌⊎◌, ℕ, inl, inr, List, refl, subst, sym, arith}
use Rattle.std.specs.Prelude.{Option, true}
use Rattle.std.proofs.KnownBytes.{Keeps-refl}
use Rattle.syc.specs.CommandReports.{IsPassed}
use Rattle.sy_passing.specs.Pass.{Counts, EndsPass}
use Rattle.sy_report.specs.Reports.{SinkState, Streams, HasReported, report}
use Rattle.sy_report.specs.declared.outcome.stop.Stop.TheVariants.{NoMemory}
use Rattle.sy_passing.proofs.Passes.{passed_nothing}

-- memory ran out before anything was read
pub nothing_passed : (input : List ℕ) (a : Option (List ℕ)) (IsReported : List ℕ → Type 0) → IsReported (report NoMemory 0) → EndsPass 3 input a a IsReported
nothing_passed input a IsReported reported = inr (inr (inl (refl, record { rest = input; n = 0; passed = passed_nothing input a a (Keeps-refl a); reported = reported })))

three_done : ◌≡◌ {A = ℕ} 3 0 ⊎ ◌≡◌ {A = ℕ} 3 2 → ⊥
three_done (inl e) = omega (arith, e)
three_done (inr e) = omega (arith, e)

three_four : ◌≡◌ {A = ℕ} 3 4 → ⊥
three_four e = omega (arith, e)

pub memory_passed : (input : Option (List ℕ)) (old new : Streams) (before after : Counts) → new.output ≡ old.output → HasReported old new (report NoMemory 0)
    → IsPassed input 3 old new before after
memory_passed input old new before after same reported = record {
  says = λ bytes known. subst (λ (o : SinkState). EndsPass 3 bytes old.output.contents o.contents (HasReported old new)) (sym same)
      (nothing_passed bytes old.output.contents (HasReported old new) reported);
  leaves = record {
    flushed = inl (λ flushed. subst (λ (o : SinkState). o.is_flushed ≡ true) (sym same) flushed);
    done = λ ended. absurd (three_done ended);
    cause = λ four. absurd (three_four four);
  };
}
