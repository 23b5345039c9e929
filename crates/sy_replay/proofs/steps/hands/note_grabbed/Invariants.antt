use Rattle.std.proofs.Common.{◌≡◌, ◌+◌, ◌≤◌, ◌++◌, length, map}
use Rattle.std.specs.Vec.{vec_capacity, vec_len}
use Rattle.sy_board.specs.relay.Steps as steps
use Rattle.sy_replay.specs.Events.{losses_of}
use Rattle.sy_replay.specs.internal.Parts.{lost_by}
use Rattle.sy_replay.proofs.steps.hands.note_grabbed.Given as goal

abbrev pub invariant-loop-node : goal.invariant-loop-node
invariant-loop-node l =
    (losses_of l.losses.items ++ lost_by l.relay (map (steps.Out.Lost steps.Cause.Grab) l.lost)
    ≡ losses_of l.initial.losses.items ++ lost_by l.initial.relay (map (steps.Out.Lost steps.Cause.Grab) l.initial.lost))
    × (vec_len l.losses + length l.lost ≤ vec_capacity l.losses) × (l.relay ≡ l.initial.relay)

abbrev pub decreases-loop-node : goal.decreases-loop-node
decreases-loop-node l = length l.lost
