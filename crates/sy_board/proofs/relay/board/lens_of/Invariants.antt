use Rattle.std.proofs.Common.{◌≡◌, length, map, take}
use Rattle.sy_marks.specs.Marks.{QueueState}
use Rattle.sy_board.proofs.relay.board.lens_of.Given as goal

-- those of the queues so far
abbrev pub invariant-loop-queue : goal.invariant-loop-queue
invariant-loop-queue l = l.lens.items ≡ map (λ (queue : QueueState). length queue.entries) (take l.queue-index l.queues)
