use Rattle.std.proofs.Common.{◌≡◌, List, [], ℕ, false}
use Rattle.std.specs.Prelude.{Option}
use Rattle.sy_runtime.specs.Connections.{Begins, since}
use Rattle.sy_runtime.specs.internal.Turning.{Goes}
use Rattle.sy_runtime.proofs.connection.turns.take_all.Given as goal

abbrev pub invariant-loop : goal.invariant-loop
invariant-loop g l = record {
  next : (goal.iterator-loop g).can_next l.iterator';
  finite : (goal.iterator-loop g).is_finite l.iterator';
  goes :
      (read : List ℕ) (before : Option (List (List ℕ)))
      → Begins read l.fn.end (since before (g.U.UnreadSink.kept l.fn.sink)) l.fn.framer.left
      → Begins read l.end (since before (g.U.UnreadSink.kept l.sink)) l.framer.left;
  good : l.framer.has_failed ≡ false;
  empty : l.intake.batch.items ≡ [];
  same : l.intake.hand ≡ l.fn.intake.hand;
}
