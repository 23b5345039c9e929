use Rattle.std.proofs.Common.{◌≡◌, ◌++◌, map}
use Rattle.sy_marks.specs.Marks.{QueueState}
use Rattle.sy_board.specs.relay.Cells.{all_of}
use Rattle.sy_board.proofs.relay.board.draining.append_queues.Given as goal

-- what was put there so far, and what will be, is all
abbrev pub invariant-loop-queue : goal.invariant-loop-queue
invariant-loop-queue l = l.left ++ all_of (map (λ (q : QueueState). q.entries) l.queue-iterator.rest.items) ≡ l.initial.left ++ all_of (map (λ (q : QueueState). q.entries) l.initial.queue-iterator.rest.items)
