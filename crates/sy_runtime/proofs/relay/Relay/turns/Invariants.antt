use Rattle.std.proofs.Common.{◌≡◌}
use Rattle.sy_runtime.specs.Connections.{Serves, since}
use Rattle.sy_runtime.proofs.relay.Relay.turns.Given as goal

abbrev pub invariant-loop : goal.invariant-loop
invariant-loop g l = record {
  next : (goal.iterator-loop g).can_next l.iterator';
  finite : (goal.iterator-loop g).is_finite l.iterator';
  serves :
      Serves (g.S.Source.remaining l.fn.reader) (g.S.Source.remaining l.reader) l.connection.end
      (since (g.U.UnreadSink.kept l.fn.unread) (g.U.UnreadSink.kept l.unread)) l.connection.left;
  faults : g.S.Source.faults l.reader ≡ g.S.Source.faults l.fn.reader;
}
