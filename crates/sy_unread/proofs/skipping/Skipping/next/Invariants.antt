use Rattle.std.proofs.Common.{◌-◌}
use Rattle.sy_unread.specs.Skipping.{SetsAside}
use Rattle.sy_unread.proofs.Causes.{Going}
use Rattle.sy_unread.proofs.skipping.Skipping.next.Given as goal

abbrev pub invariant-loop-turns : goal.invariant-loop-turns
invariant-loop-turns g l = record {
  aside : SetsAside l.fn.self.standing l.self.standing (g.S.Source.remaining l.fn.self.source) (g.S.Source.remaining l.self.source)
      (g.K.LongSink.kept l.fn.self.sink) (g.K.LongSink.kept l.self.sink);
  going : Going (g.S.Source.faults l.fn.self.source) (g.S.Source.faults l.self.source) (g.S.Source.calls l.fn.self.source) (g.S.Source.calls l.self.source)
      (g.K.LongSink.refused l.fn.self.sink) (g.K.LongSink.refused l.self.sink) l.fn.self.standing l.self.standing l.turns;
}

abbrev pub decreases-loop-turns : goal.decreases-loop-turns
decreases-loop-turns g l = 18446744073709551615 - l.turns
