use Rattle.std.proofs.Common.{◌∙◌, ap, length, sym}
use Rattle.std.specs.Arc.{arc_value}
use Rattle.sy_rules.specs.PlanValue.{Plan}
use Rattle.sy_replay.specs.Events.{losses_of}
use Rattle.sy_replay.specs.internal.Parts.{items_of}
use Rattle.sy_replay.proofs.Made.{on_ok}
use Rattle.sy_replay.proofs.Sites.{plan_after}
use Rattle.sy_replay.proofs.part.Part.take.Goals as goal

pub invariant_of-self : goal.invariant_of-self
invariant_of-self c =
    c.self.invariant ∙ ap (λ (p : Plan). length p.actions) (sym (plan_after _ c.take_message.result c.args.to.relay c.self.inside.board c.take_message.new.board
    (losses_of c.args.losses.now.items) (losses_of c.take_message.new.losses.items) c.args.to.input c.args.hand (arc_value c.args.message) c.args.tag
    c.take_message.ensures.ok c.take_message.ensures.unchanged))

pub returns-clause-ok : goal.returns-clause-ok
returns-clause-ok c = rw (← c.self.view_is)
    (on_ok c.take_message.result (λ t. (t.0, t.1, t.2, t.3 (items_of c.self.inside.passed.items))) c.take_message.ensures.ok)
