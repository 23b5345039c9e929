-- What is found in a text: its tree, or a fault and its place.
use Rattle.std.specs.Prelude.{◌≡◌, ◌≢◌, ℕ, ◌+◌, if◌then◌else◌, ◌==◌, List, [], ◌∷◌, length, take, Option, Some, None, Result, Ok, Err}
use Rattle.std.specs.List.{slice_range}
use Rattle.sy_script.specs.declared.token.Ending.{Ending}
use Rattle.sy_script.specs.declared.token.Ending.TheVariants as ending
use Rattle.sy_script.specs.declared.halt.Halt.{Halt}
use Rattle.sy_script.specs.declared.halt.Halt.TheVariants as halt
use Rattle.sy_script.specs.declared.fault.FaultCode.{FaultCode}
use Rattle.sy_script.specs.declared.fault.FaultCode.TheVariants as code
use Rattle.sy_script.specs.declared.fault.ScriptFault.{ScriptFault}
use Rattle.sy_script.specs.declared.script.PlacedFault.{PlacedFault}
use Rattle.sy_script.specs.declared.tree.Top.{Top}
use Rattle.sy_script.specs.declared.tree.Script.{Script}
use Rattle.sy_script.specs.Terms.{max_depth}
use Rattle.sy_script.specs.internal.Lex.{tokens}
use Rattle.sy_script.specs.internal.ReadingStmt.{tops}

-- ---- lines and columns, both from 1: each LF ends a line, and each other byte takes a column

abbrev pub place_from : ℕ → ℕ → List ℕ → ℕ × ℕ
place_from line column [] = (line, column)
place_from line column (b ∷ bytes) = if b == 10 then place_from (line + 1) 1 bytes else place_from line (column + 1) bytes

-- the line and the column after these bytes
unfoldable pub place : List ℕ → ℕ × ℕ
place before = place_from 1 1 before

-- ---- faults by the places of their bytes

abbrev pub at : FaultCode → ℕ → PlacedFault
at code start = record { code = code; span = record { start = start; end = start } }

-- The tokens are over too early: their ending is at fault, or what is open, or else the end of the text.
abbrev pub at_end : ℕ → Ending → Option ℕ → PlacedFault
at_end len (ending.Byte start) opened = at code.Byte start
at_end len (ending.Open start) opened = at code.Unclosed start
at_end len ending.Complete (Some start) = at code.Unclosed start
at_end len ending.Complete None = at code.Unexpected len

abbrev pub fault_of : ℕ → Ending → Halt → PlacedFault
fault_of len end halt.Memory = at code.NoMemory 0
fault_of len end (halt.Unexpected span) = at code.Unexpected span.start
fault_of len end (halt.TooDeep span) = at code.TooDeep span.start
fault_of len end (halt.LeftOut span) = record { code = code.LeftOut; span = span }
fault_of len end (halt.End opened) = at_end len end opened

abbrev pub ended_by : ℕ → List Top → Ending → Result Script PlacedFault
ended_by len tops ending.Complete = Ok (record { tops = tops })
ended_by len tops (ending.Byte start) = Err (at code.Byte start)
ended_by len tops (ending.Open start) = Err (at code.Unclosed start)

abbrev pub ended : ℕ → Ending → Result (List Top) Halt → Result Script PlacedFault
ended len end (Ok tops) = ended_by len tops end
ended len end (Err halt) = Err (fault_of len end halt)

-- the tree or the fault
unfoldable pub reading : List ℕ → Result Script PlacedFault
reading text = ended (length text) (tokens text).1 (tops text max_depth (tokens text).0)

abbrev pub located : List ℕ → PlacedFault → ScriptFault
located text f =
    let where_at = place (take f.span.start text) in
    record { code = f.code; line = where_at.0; column = where_at.1; word = slice_range text f.span.start f.span.end }

abbrev pub no_memory : ScriptFault
no_memory = record { code = code.NoMemory; line = 1; column = 1; word = [] }

-- ---- what the functions ensure

abbrev pub Reads : List ℕ → Result Script PlacedFault → Type 0
Reads text (Ok script) = reading text ≡ Ok script
Reads text (Err fault) = fault.code ≢ code.NoMemory → reading text ≡ Err fault

abbrev pub Locates : List ℕ → PlacedFault → ScriptFault → Type 0
Locates text fault found = (found.code ≢ code.NoMemory → found ≡ located text fault) × (found.code ≡ code.NoMemory → fault.code ≢ code.NoMemory → found ≡ no_memory)
