use Rattle.sy_replay.specs.internal.Held.{state_held}
use Rattle.sy_replay.proofs.replay.Replay.is_reached.Goals as goal

pub returns-clause-within_marks : goal.returns-clause-within_marks
returns-clause-within_marks c = rw (← c.self.view_is)
    (c.queues_stay_within_marks.ensures c.self.inside.site c.self.invariant.1.0 (state_held c.self.inside.held) c.self.invariant.1.1)
