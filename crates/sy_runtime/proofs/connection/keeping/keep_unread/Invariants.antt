use Rattle.std.proofs.Common.{List, ℕ, length}
use Rattle.std.specs.Prelude.{Option}
use Rattle.sy_runtime.specs.Connections.{since}
use Rattle.sy_runtime.specs.internal.Held.{Holds}
use Rattle.sy_runtime.proofs.connection.keeping.keep_unread.Given as goal

abbrev pub invariant-loop-item : goal.invariant-loop-item
invariant-loop-item g l =
    (read left : List ℕ) (before : Option (List (List ℕ)))
    → Holds read l.fn.end (since before (g.U.UnreadSink.kept l.fn.sink)) l.fn.batch.items left
    → Holds read l.end (since before (g.U.UnreadSink.kept l.sink)) l.batch.items left

abbrev pub decreases-loop-item : goal.decreases-loop-item
decreases-loop-item g l = length l.batch.items
