-- What the commands report (this profile's own).
use Rattle.std.specs.Prelude.{◌≡◌, ℕ, ◌+◌, true, List, ◌⊎◌, Option, ◌≤◌, Some, codes}
use Rattle.std.specs.Io.KnownBytes.{Appends}
use Rattle.sy_wire.specs.Streams.{Rose}
use Rattle.sy_report.specs.Reports.{Streams, HasReported, Torn, said}
use Rattle.sy_passing.specs.Pass.{Counts, HasFailed, PassIs}
use Rattle.sy_report.specs.declared.command_line.options.Options.{Options}
use Rattle.sy_commands.specs.Optioned.{EndsAs}
use Rattle.syc.specs.Words.{ArePassAlone}
use Rattle.sy_commands.specs.Words.{OverSite}
use Rattle.sy_commands.specs.CommandReports.{SaysReport}

-- How a pass leaves standard output, and why: what was written has been handed on, unless a write or a flush failed; where it ended with the input
-- or at a fault it has been in any case; and where it says that something failed, something did.
pub record Leaves (status : ℕ) (old new : Streams) (before after : Counts) : Type 0 where
  pub flushed : (old.output.is_flushed ≡ true → new.output.is_flushed ≡ true) ⊎ ((status ≡ 4) × Rose old.output.faults new.output.faults)
  pub done : (status ≡ 0) ⊎ (status ≡ 2) → new.output.is_flushed ≡ true
  pub cause : status ≡ 4 → HasFailed (HasReported old new) before after

-- It ends as it may without options, and prints what it says.
pub record ReportIs (bytes_of : List ℕ → Option (List ℕ)) (options : Options) (command : OverSite) (status : ℕ) (old new : Streams) : Type 0 where
  pub ends : EndsAs bytes_of command status
  pub says : SaysReport bytes_of options command status old new

-- A pass over this input, and how it leaves standard output.
pub record IsPassed (input : Option (List ℕ)) (status : ℕ) (old new : Streams) (before after : Counts) : Type 0 where
  pub says : (bytes : List ℕ) → input ≡ Some bytes → PassIs status bytes old new
  pub leaves : Leaves status old new before after

-- Standard input is read so many times at most, and by no other command than a pass.
pub record ReadsNoMore {R : Type 0} (words : List (List ℕ)) (calls : R → ℕ) (most : ℕ) (old new : R) : Type 0 where
  pub calls_are : calls new ≤ calls old + most
  pub untouched : (ArePassAlone words → ⊥) → new ≡ old

-- What is answered to words that are no command: a help or the version is printed; or standard error says what is wrong with them; or memory ran out, or a
-- write failed, which is told. What those texts are isn't said here.
abbrev pub Shows : ℕ → Streams → Streams → Type 0
Shows status old new =
    ((status ≡ 0) × (text : List ℕ) × Appends old.output.contents new.output.contents text × (new.output.is_flushed ≡ true)
    × (new.output.faults ≡ old.output.faults) × (new.errors ≡ old.errors))
    ⊎ ((status ≡ 2) × (new.output ≡ old.output))
    ⊎ ((status ≡ 3) × (new.output ≡ old.output) × HasReported old new (said (codes "no memory")))
    ⊎ ((status ≡ 4) × (text : List ℕ) × Torn old.output.contents new.output.contents text × Rose old.output.faults new.output.faults
    × HasReported old new (said (codes "write failed")))
