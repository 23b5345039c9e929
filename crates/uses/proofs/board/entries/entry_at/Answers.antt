use Rattle.std.specs.Arc.{arc_value}
use Rattle.uses.proofs.Posts.{with_due}
use Rattle.uses.proofs.board.entries.entry_at.Goals as goal

pub returns : goal.returns
returns c = with_due c.args.plan.now c.args.list c.args.input c.args.tag c.due-due.result (arc_value c.args.message) c.deref.result.now c.entry_with.result
    c.deref.ensures c.due-due.ensures c.entry_with.ensures
