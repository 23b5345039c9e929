-- What a connection holds after a read.
use Rattle.std.specs.Prelude.{ℕ, List, Option}
use Rattle.std.specs.Io.KnownBytes.{IsAtEnd}
use Rattle.sy_wire.specs.Frames.{Held}
use Rattle.sy_runtime.specs.Connections.{Counts, Kept, Serves}
use Rattle.sy_runtime.specs.declared.connection.reading.Step.{Step}
use Rattle.sy_runtime.specs.declared.connection.reading.Step.TheVariants as step

-- what was read follows what was counted; at the end of its source there will be no more
abbrev pub StepIs : Step → Option (List ℕ) → Option (List ℕ) → Counts → Kept → Held → Type 0
StepIs step.Read ahead ahead' end kept held = Serves ahead ahead' end kept held.left
StepIs step.Ends ahead ahead' end kept held = Serves ahead ahead' end kept held.left × IsAtEnd ahead'
StepIs step.NotRead ahead ahead' end kept held = Serves ahead ahead' end kept held.left
StepIs step.NoMemory ahead ahead' end kept held = Serves ahead ahead' end kept held.left
