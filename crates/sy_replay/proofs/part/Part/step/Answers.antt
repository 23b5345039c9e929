use Rattle.sy_replay.specs.Events.{losses_of, step_of}
use Rattle.sy_replay.proofs.Sites.{lists_after}
use Rattle.sy_replay.proofs.part.Part.step.Goals as goal

pub invariant_of-self : goal.invariant_of-self
invariant_of-self c =
    lists_after _ c.step.result c.args.relay c.self.inside.board c.step.new.board c.self.inside.passed.items c.step.new.passed.items (step_of c.args.event)
    (losses_of c.args.losses.now.items) (losses_of c.step.new.losses.items) c.self.invariant c.step.ensures.ok c.step.ensures.unchanged
