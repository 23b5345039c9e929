-- What the program writes to, and what it prints of a stop.
use Rattle.std.specs.Prelude.{ℕ, Bool, true, false, List, ◌++◌}
use Rattle.sy_report.specs.Reports.{SinkState, Streams, Reported}

-- The line was written first, and more may stand behind it.
abbrev pub ReportedFirst : SinkState → SinkState → List ℕ → Type 0
ReportedFirst old new line = (more : List ℕ) × Reported old new (line ++ more)

-- The line was written, and more may stand after it only where more is told.
abbrev pub ReportedBy : (reports_more : Bool) → SinkState → SinkState → List ℕ → Type 0
ReportedBy false = Reported
ReportedBy true = ReportedFirst

abbrev pub HasReportedBy : (reports_more : Bool) → Streams → Streams → List ℕ → Type 0
HasReportedBy reports_more old new line = ReportedBy reports_more old.errors new.errors line
