use Rattle.std.proofs.Common.{List, ℕ}
use Rattle.std.specs.Prelude.{Option}
use Rattle.sy_runtime.specs.Connections.{since}
use Rattle.sy_runtime.specs.internal.Held.{Holds}
use Rattle.sy_runtime.proofs.connection.inserting.insert_batch.Given as goal

abbrev pub invariant-loop : goal.invariant-loop
invariant-loop g l = record {
  next : (goal.iterator-loop g).can_next l.iterator';
  finite : (goal.iterator-loop g).is_finite l.iterator';
  kept :
      (read left : List ℕ) (before : Option (List (List ℕ)))
      → Holds read l.fn.end (since before (g.U.UnreadSink.kept l.fn.sink)) l.fn.batch.items left
      → Holds read l.end (since before (g.U.UnreadSink.kept l.sink)) l.batch.items left;
}
