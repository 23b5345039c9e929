-- What the parts of a pass count.
use Rattle.std.specs.Prelude.{◌≡◌, ℕ, List, ◌⊎◌}
use Rattle.sy_wire.specs.Streams.{Rose}
use Rattle.sy_report.specs.Reports.{report}
use Rattle.sy_report.specs.declared.outcome.stop.Stop.{Stop}
use Rattle.sy_report.specs.declared.outcome.stop.Stop.TheVariants.{ReadFailed, WriteFailed}
use Rattle.sy_passing.specs.Pass.{Counts}

abbrev pub counts : {R W : Type 0} → (R → ℕ) → (R → ℕ) → (W → ℕ) → R → W → Counts
counts faults calls write_faults reader writer = record {
  reads_failed = faults reader;
  reads = calls reader;
  writes_failed = write_faults writer;
}

-- the same of the last steps, after this stop
abbrev pub GivesUpFailing : (List ℕ → Type 0) → Stop → ℕ → ℕ → Type 0
GivesUpFailing IsReported stop writes_failed writes_failed' =
    (IsReported (report ReadFailed 0) × (stop ≡ ReadFailed))
    ⊎ (IsReported (report WriteFailed 0) × ((stop ≡ WriteFailed) ⊎ Rose writes_failed writes_failed'))
