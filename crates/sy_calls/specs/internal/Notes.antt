-- A call as the code notes it.
use Rattle.std.specs.Prelude.{ℕ, List, slice_index}
use Rattle.sy_calls.specs.Calls.{Call}

abbrev pub call_of : List ℕ → List ℕ → Call
call_of numbers bytes = (slice_index numbers 0, bytes)
