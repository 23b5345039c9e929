-- What a connection that was halted answers.
use Rattle.std.specs.Prelude.{Result, Ok, Err}
use Rattle.sy_runtime.specs.declared.connection_end.Finish.{Finish}
use Rattle.sy_runtime.specs.declared.connection_end.Finish.TheVariants as finish
use Rattle.sy_runtime.specs.declared.fault.RunFault.{RunFault}
use Rattle.sy_runtime.specs.declared.fault.RunFault.TheVariants as fault
use Rattle.sy_runtime.specs.declared.connection.gathering.Gathered.{Gathered}
use Rattle.sy_runtime.specs.declared.connection.gathering.Gathered.TheVariants as gathered
use Rattle.sy_runtime.specs.declared.connection.halt.Halt.{Halt}
use Rattle.sy_runtime.specs.declared.connection.halt.Halt.TheVariants as halt

-- what a connection answers that was halted
abbrev pub halted : Halt → Result Finish RunFault
halted halt.Closed = Ok finish.Closed
halted halt.TotalsFull = Err fault.TotalsFull
halted halt.Hands = Err fault.Hands
halted halt.NoMemory = Err fault.NoMemory

-- the same, of one whose gathering ended so
abbrev pub halted_at : Halt → Gathered → Result Finish RunFault
halted_at halt.Closed gathered.NoMemory = Err fault.NoMemory
halted_at halt.Closed _ = Ok finish.Closed
halted_at halt.TotalsFull stop = Err fault.TotalsFull
halted_at halt.Hands stop = Err fault.Hands
halted_at halt.NoMemory stop = Err fault.NoMemory
