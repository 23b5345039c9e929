use Rattle.std.proofs.Common.{◌≡◌, ◌++◌, map}
use Rattle.sy_board.specs.declared.relay.board.Worker.{Worker}
use Rattle.sy_board.specs.relay.Cells.{all_of}
use Rattle.sy_board.proofs.relay.board.draining.append_workers.Given as goal

-- what was put there so far, and what will be, is all
abbrev pub invariant-loop-worker : goal.invariant-loop-worker
invariant-loop-worker l = l.left ++ all_of (map (λ (w : Worker). w.entries) l.worker-iterator.rest.items) ≡ l.initial.left ++ all_of (map (λ (w : Worker). w.entries) l.initial.worker-iterator.rest.items)
