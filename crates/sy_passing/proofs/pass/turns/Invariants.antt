use Rattle.std.proofs.Common.{◌≡◌, ◌<◌, ◌≤◌, ◌+◌, ◌*◌, ℕ, List, ◌++◌, length, Some}
use Rattle.sy_wire.specs.Streams.{count_after}
use Rattle.sy_passing.specs.Pass.{NoneFailed}
use Rattle.sy_passing.specs.internal.Pass.{counts}
use Rattle.sy_passing.specs.internal.Stops.{Advances, IsBetween}
use Rattle.sy_passing.specs.Ways.{IsWhole}
use Rattle.sy_passing.proofs.pass.turns.Given as goal

abbrev pub invariant-loop : goal.invariant-loop
invariant-loop g l =
    record {
      between : IsBetween l.board l.framer;
      lent : g.W.Sink.lent l.hatch.device.writer ≡ g.W.Sink.lent l.initial.hatch.device.writer;
      whole : IsWhole l.hatch l.board.totals.taken;
      room : l.board.totals.taken + length l.framer.left ≤ l.counter * 65536;
      first : l.counter ≡ 0 → g.R.Source.calls l.reader ≡ g.R.Source.calls l.initial.reader;
      calls : 0 < l.counter → g.R.Source.calls l.reader ≡ count_after (g.R.Source.calls l.initial.reader) l.counter;
      bound : g.R.Source.calls l.reader ≤ g.R.Source.calls l.initial.reader + l.counter;
      none_failed : NoneFailed (counts g.R.Source.faults g.R.Source.calls g.W.Sink.faults l.initial.reader l.initial.hatch.device.writer) (counts g.R.Source.faults g.R.Source.calls g.W.Sink.faults l.reader l.hatch.device.writer);
      passed :
          (input : List ℕ) → g.R.Source.remaining l.initial.reader ≡ Some input
          → (ahead : List ℕ) × (g.R.Source.remaining l.reader ≡ Some ahead)
          × Advances input (g.W.Sink.contents l.initial.hatch.device.writer) (g.W.Sink.contents l.hatch.device.writer) (l.framer.left ++ ahead) 0 l.board.totals.taken;
    }
