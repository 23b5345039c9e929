use Rattle.std.proofs.Common.{◌≡◌, length}
use Rattle.sy_runtime.specs.internal.Recording.{Settled}
use Rattle.sy_runtime.proofs.worker.recording.settle_all.Given as goal

abbrev pub invariant-loop-board : goal.invariant-loop-board
invariant-loop-board l = record {
  settled : Settled l.worker l.fn.board l.fn.receipts l.board l.receipts;
  plan : l.board.plan ≡ l.fn.board.plan;
}

abbrev pub decreases-loop-board : goal.decreases-loop-board
decreases-loop-board l = length l.receipts.messages
