use Rattle.std.proofs.Common.{◌≡◌, ◌+◌, ◌≤◌, ◌<◌, ◌^◌, false, length}
use Rattle.sy_passing.specs.internal.Stops.{Advances}
use Rattle.sy_passing.specs.Stops.{IsIdle}
use Rattle.sy_passing.specs.Ways.{IsWhole}
use Rattle.sy_passing.proofs.pass.drain.Given as goal

abbrev pub invariant-frames : goal.invariant-frames
invariant-frames g l =
    record {
      idle : IsIdle l.board;
      lent : g.W.Sink.lent l.hatch.device.writer ≡ g.W.Sink.lent l.initial.hatch.device.writer;
      whole : IsWhole l.hatch l.board.totals.taken;
      good : l.framer.has_failed ≡ false;
      room : l.board.totals.taken + length l.framer.left ≤ l.initial.board.totals.taken + length l.initial.framer.left;
      small : l.initial.board.totals.taken + length l.initial.framer.left < 2 ^ 64;
      advances : Advances l.initial.framer.left (g.W.Sink.contents l.initial.hatch.device.writer) (g.W.Sink.contents l.hatch.device.writer) l.framer.left l.initial.board.totals.taken l.board.totals.taken;
      same : g.W.Sink.faults l.hatch.device.writer ≡ g.W.Sink.faults l.initial.hatch.device.writer;
    }

abbrev pub decreases-frames : goal.decreases-frames
decreases-frames g l = length l.framer.left
