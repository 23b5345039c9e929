use Rattle.std.proofs.Common.{◌≡◌, ◌++◌, drop, flat_map}
use Rattle.sy_replay.specs.Events.{losses_of}
use Rattle.sy_replay.specs.States.{state_at}
use Rattle.sy_commands.specs.Replays.{loss_line}
use Rattle.sy_commands.proofs.replay.losses.append_losses.Given as goal

-- what was put, and the lines that are left to put
abbrev pub invariant-loop-loss : goal.invariant-loop-loss
invariant-loop-loss l =
    l.text.items ++ flat_map (loss_line l.site (state_at l.replay) l.line) (losses_of (drop l.loss-index l.losses))
    ≡ l.initial.text.items ++ flat_map (loss_line l.site (state_at l.replay) l.line) (losses_of l.losses)
