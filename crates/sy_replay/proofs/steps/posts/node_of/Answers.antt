use Rattle.std.specs.Arc.{arc_value}
use Rattle.sy_replay.proofs.Refused.{posts_made}
use Rattle.sy_replay.proofs.steps.posts.node_of.Goals as goal

pub returns-in-Ok : goal.returns-in-Ok
returns-in-Ok c =
    let p = c.args.post in
    record { ok = posts_made c.args.board.now c.args.worker p.list p.followed p.input p.tag (arc_value p.message) c.requires c.due-due.result c.in-Ok.node (rw (c.deref-2.ensures, c.plan-2.ensures, c.deref-3.ensures) at c.due-due.ensures) c.in-Ok.ensures.ok }
