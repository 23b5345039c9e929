use Rattle.std.specs.Arc.{arc_value}
use Rattle.uses.proofs.Posts.{of_input}
use Rattle.uses.proofs.board.entries.arrived.Goals as goal

pub returns : goal.returns
returns c = of_input c.args.plan.now c.args.input c.in_ok-list.list c.args.tag (arc_value c.in_ok-message.field-0) c.entry_at.result
    c.in_ok-list.ensures c.entry_at.ensures
