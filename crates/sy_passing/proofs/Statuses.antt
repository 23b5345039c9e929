-- What each exit status says.
use Rattle.std.proofs.Common.{◌≡◌, ◌≢◌, ◌⊎◌, ℕ, ◌+◌, ◌≤◌, inl, inr, List, ◌++◌, refl, subst, arith}
use Rattle.std.specs.Prelude.{Option}
use Rattle.std.specs.Io.KnownBytes.{Keeps}
use Rattle.std.proofs.KnownBytes.{Appends-kept}
use Rattle.sy_wire.specs.Streams.{Rose}
use Rattle.sy_passing.specs.Pass.{Counts, EndsPass, HasFailed, NoneFailed, PartPassed, lines}
use Rattle.sy_passing.specs.internal.Pass.{GivesUpFailing}
use Rattle.sy_report.specs.Reports.{report, status_shown}
use Rattle.sy_passing.specs.internal.Stops.{PassCause, StopIs, StopsAt, StopsIn}
use Rattle.sy_report.specs.declared.outcome.stop.Stop.{Stop}
use Rattle.sy_report.specs.declared.outcome.stop.Stop.TheVariants.{Frame, Message, NoMemory, ReadFailed, WriteFailed}
use Rattle.sy_passing.proofs.Passes.{part_of_passed, passed_kept}

part_flushed : (input : List ℕ) (a b c : Option (List ℕ)) → PartPassed input a b → Keeps b c → PartPassed input a c
part_flushed input a b c p kept = record {
  messages = p.messages;
  rest = p.rest;
  part = p.part;
  each = p.each;
  whole = p.whole;
  is_part = p.is_part;
  wrote = Appends-kept a b c (lines p.messages ++ p.part) p.wrote kept;
}

stops_part : (e : Stop) (input : List ℕ) (a b : Option (List ℕ)) (i j : ℕ) → StopsAt e input a b i j → PartPassed input a b
stops_part e input a b i j s = part_of_passed input s.rest s.advances.n a b s.advances.passed

stop_part : (e : Stop) (input : List ℕ) (a b : Option (List ℕ)) (i j : ℕ) → StopIs e input a b i j → PartPassed input a b
stop_part (Frame f) input a b i j h = stops_part (Frame f) input a b i j h
stop_part (Message f) input a b i j h = stops_part (Message f) input a b i j h
stop_part NoMemory input a b i j h = part_of_passed input h.0 h.1 a b h.2
stop_part ReadFailed input a b i j h = h
stop_part WriteFailed input a b i j h = h

module _ (input : List ℕ) (a b c : Option (List ℕ)) (kept : Keeps b c) (IsReported : List ℕ → Type 0) where
  -- the last flush failed
  pub flush_failed : (e : Stop) (frame : ℕ) → StopsIn e frame input a b → IsReported (report WriteFailed frame) → EndsPass 4 input a c IsReported
  flush_failed e frame s reported = inr (inr (inr (refl, record { part = part_flushed input a b c (stop_part e input a b 0 s.taken s.stops) kept; reported = inr reported })))

  at_fault : (e : Stop) (frame taken : ℕ) → StopsAt e input a b 0 taken → frame ≡ taken + 1 → IsReported (report e frame) → EndsPass 2 input a c IsReported
  at_fault e frame taken s number reported =
      let n_is : frame ≡ s.advances.n + 1 = omega (arith, number, s.advances.taken) in
      inr (inl (
        refl,
        record {
          stop = e;
          rest = s.rest;
          n = s.advances.n;
          passed = passed_kept input s.rest s.advances.n a b c s.advances.passed kept;
          fault = s.fault;
          reported = rw (← n_is) reported;
        },
      ))

  pub stopped : (e : Stop) (frame : ℕ) → StopsIn e frame input a b → IsReported (report e frame) → EndsPass (status_shown e) input a c IsReported
  stopped (Frame f) frame s reported = at_fault (Frame f) frame s.taken s.stops s.number reported
  stopped (Message f) frame s reported = at_fault (Message f) frame s.taken s.stops s.number reported
  stopped NoMemory frame s reported = inr (inr (inl (refl, record { rest = s.stops.0; n = s.stops.1; passed = passed_kept input s.stops.0 s.stops.1 a b c s.stops.2 kept; reported = reported })))
  stopped ReadFailed frame s reported = inr (inr (inr (refl, record { part = part_flushed input a b c s.stops kept; reported = inl reported })))
  stopped WriteFailed frame s reported = inr (inr (inr (refl, record { part = part_flushed input a b c s.stops kept; reported = inr reported })))

rose_more : (a b c : ℕ) → b ≤ c → Rose a b → Rose a c
rose_more a b c le (inl h) = inl (omega arith)
rose_more a b c le (inr h) = inr (omega arith)

more_rose : (a b c : ℕ) → a ≤ b → Rose b c → Rose a c
more_rose a b c le (inl h) = inl (omega arith)
more_rose a b c le (inr h) = inr h

-- the counts with another one of failed writes
abbrev with_writes : Counts → ℕ → Counts
with_writes now w = record { reads_failed = now.reads_failed; reads = now.reads; writes_failed = w }

-- a failure that the last steps answer has a cause
pub has_failed : (IsReported : List ℕ → Type 0) (e : Stop) (before now : Counts) (w : ℕ) → before.writes_failed ≤ now.writes_failed → now.writes_failed ≤ w → PassCause e before now → GivesUpFailing IsReported e now.writes_failed w → HasFailed IsReported before (with_writes now w)
has_failed IsReported e before now w le le' cause (inl read) = let h : PassCause ReadFailed before now = subst (λ (s : Stop). PassCause s before now) read.1 cause in inl (read.0, h)
has_failed IsReported e before now w le le' cause (inr write) = inr (
  write.0,
  elim write.1 [
    | inl is ↦ let h : PassCause WriteFailed before now = subst (λ (s : Stop). PassCause s before now) is cause in rose_more before.writes_failed now.writes_failed w le' h
    | inr rose ↦ more_rose before.writes_failed now.writes_failed w le rose
  ],
)

-- a write failed before the last steps, or in them
pub rose_by : (e : Stop) (before now : Counts) (w : ℕ) → before.writes_failed ≤ now.writes_failed → now.writes_failed ≤ w → PassCause e before now
    → (e ≡ WriteFailed) ⊎ Rose now.writes_failed w → Rose before.writes_failed w
rose_by e before now w le le' cause (inl is) = let h : PassCause WriteFailed before now = subst (λ (s : Stop). PassCause s before now) is cause in rose_more before.writes_failed now.writes_failed w le' h
rose_by e before now w le le' cause (inr rose) = more_rose before.writes_failed now.writes_failed w le rose

-- the last flush may have failed
pub gives_up : (IsReported : List ℕ → Type 0) (e : Stop) (frame w w' : ℕ) → status_shown e ≡ 4 → IsReported (report e frame) → GivesUpFailing IsReported e w w'
gives_up IsReported (Frame f) frame w w' is reported = absurd (omega (arith, is))
gives_up IsReported (Message f) frame w w' is reported = absurd (omega (arith, is))
gives_up IsReported NoMemory frame w w' is reported = absurd (omega (arith, is))
gives_up IsReported ReadFailed frame w w' is reported = inl (reported, refl)
gives_up IsReported WriteFailed frame w w' is reported = inr (reported, inl refl)

-- nothing failed where the status isn't that of a failure
pub none_failed : (e : Stop) (before after : Counts) → PassCause e before after → status_shown e ≢ 4 → NoneFailed before after
none_failed (Frame f) before after none other = none
none_failed (Message f) before after none other = none
none_failed NoMemory before after none other = none
none_failed ReadFailed before after cause other = absurd (other refl)
none_failed WriteFailed before after cause other = absurd (other refl)
