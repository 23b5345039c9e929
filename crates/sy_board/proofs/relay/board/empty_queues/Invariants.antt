use Rattle.std.proofs.Common.{◌≡◌, map, take}
use Rattle.sy_board.specs.internal.Kept.{empty_queue}
use Rattle.sy_board.proofs.relay.board.empty_queues.Given as goal

-- those of the parameters so far
abbrev pub invariant-loop-parameters : goal.invariant-loop-parameters
invariant-loop-parameters l = l.queues.items ≡ map empty_queue (take l.parameters-index l.parameters-items)
