use Rattle.std.proofs.Common.{ap}
use Rattle.sy_replay.specs.Events.{site_event}
use Rattle.sy_replay.specs.internal.Held.{state_held}
use Rattle.sy_replay.specs.States.{state_in}
use Rattle.sy_replay.proofs.Made.{on_err, on_ok}
use Rattle.sy_replay.proofs.Replays.{are_of_after, reached_after}
use Rattle.sy_replay.proofs.replay.Replay.apply.Goals as goal

pub invariant_of-self : goal.invariant_of-self
invariant_of-self c =
    let site = c.self.inside.site in
    let old = c.self.inside.held in
    let new = c.step.new.held in (
      are_of_after site old.parts.items new.parts.items c.self.invariant.0 c.step.ensures.plans,
      reached_after c.step.result site (state_held old) (site_event c.args.event.now) (state_held new) c.self.invariant.1
          (on_ok c.step.result (λ applies. applies.0) c.step.ensures.ok)
          (on_err c.step.result (λ same. ap state_in same) c.step.ensures.unchanged),
    )

pub returns-clause-ok : goal.returns-clause-ok
returns-clause-ok c = rw (← c.self.view_is) c.step.ensures.ok
