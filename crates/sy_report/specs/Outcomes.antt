-- How a command ends that prints one text (this profile's own).
use Rattle.std.specs.Prelude.{◌≡◌, ℕ, Bool, true, false, ◌⊎◌, List, codes}
use Rattle.std.specs.Io.KnownBytes.{Appends}
use Rattle.sy_wire.specs.Streams.{Rose}
use Rattle.sy_report.specs.Reports.{Streams, HasReported, Torn, said}

-- the exit status: 0 accepted, 1 refused
abbrev pub status_for : Bool → ℕ
status_for true = 0
status_for false = 1

-- The text was written to standard output and handed on, no write failed, and nothing was written to standard error. Or a write or a flush failed,
-- which is told, and a prefix of the text was written.
abbrev pub Prints : List ℕ → (is_accepted : Bool) → ℕ → Streams → Streams → Type 0
Prints text is_accepted status old new =
    ((status ≡ status_for is_accepted) × Appends old.output.contents new.output.contents text × (new.output.is_flushed ≡ true)
    × (new.output.faults ≡ old.output.faults) × (new.errors ≡ old.errors))
    ⊎ ((status ≡ 4) × Torn old.output.contents new.output.contents text × Rose old.output.faults new.output.faults
    × HasReported old new (said (codes "write failed")))
