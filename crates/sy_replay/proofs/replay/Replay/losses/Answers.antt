use Rattle.std.proofs.Common.{ap}
use Rattle.sy_replay.specs.Events.{losses_of}
use Rattle.sy_replay.specs.internal.Held.{state_held}
use Rattle.sy_replay.proofs.Losses.{copies_there, relays_there}
use Rattle.sy_replay.proofs.replay.Replay.losses.Goals as goal

pub returns-clause-relays : goal.returns-clause-relays
returns-clause-relays c = rw (← c.self.view_is)
    (relays_there c.self.inside.site (state_held c.self.inside.held) c.as_slice.result.now c.self.invariant.1 (ap losses_of c.as_slice.ensures.value))

pub returns-clause-copies : goal.returns-clause-copies
returns-clause-copies c = rw (← c.self.view_is)
    (copies_there c.self.inside.site (state_held c.self.inside.held) c.as_slice.result.now c.self.invariant.1 (ap losses_of c.as_slice.ensures.value))
