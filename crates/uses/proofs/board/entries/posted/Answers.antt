use Rattle.std.proofs.Common.{◌∙◌}
use Rattle.std.specs.Arc.{arc_value}
use Rattle.uses.proofs.Posts.{for_post, none_is_none, run_is_none}
use Rattle.uses.proofs.board.entries.posted.Goals as goal

pub returns-in-Some : goal.returns-in-Some
returns-in-Some c = for_post c.args.board.now c.deref-in-Some-Post.result.now c.args.worker c.in-Some-Post.list c.in-Some-Post.input c.in-Some-Post.tag
    (arc_value c.in-Some-Post.message.now) (arc_value c.in-Some.message) c.entry_at.result
    (c.deref-in-Some-Post.ensures ∙ c.plan-in-Some-Post.ensures) c.in-Some.ensures (rw c.in-Some-Post.field-0-is at c.in-Some-Post.ensures.some) c.entry_at.ensures

pub returns-in-Some-Run : goal.returns-in-Some-Run
returns-in-Some-Run c = run_is_none c.args.board.now c.args.worker c.in-Some-Run.field-0-0 c.in-Some-Run.field-0-2 (arc_value c.in-Some-Run.field-0-1.now) c.entry.result
    (rw c.in-Some-Run.field-0-is at c.in-Some-Run.ensures.some)

pub returns-in-None : goal.returns-in-None
returns-in-None c = none_is_none c.args.board.now c.args.worker c.entry-in-None.result c.in-None.ensures.none
