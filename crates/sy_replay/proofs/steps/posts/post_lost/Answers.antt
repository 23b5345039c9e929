use Rattle.std.proofs.Common.{sym, subst}
use Rattle.std.specs.Arc.{arc_value}
use Rattle.sy_board.specs.relay.Boards.{is_no_memory}
use Rattle.sy_board.specs.relay.Steps.{Event}
use Rattle.sy_replay.specs.internal.Events.{IsIllegal}
use Rattle.sy_replay.proofs.Made.{post_gone}
use Rattle.sy_replay.proofs.Refused.{no_lost_posts, post_lost_refused}
use Rattle.sy_replay.proofs.steps.posts.post_lost.Goals as goal

pub returns-in-Err-clause-err : goal.returns-in-Err-clause-err
returns-in-Err-clause-err c = no_lost_posts c.in-Err.why c.args.board.now c.args.worker (is_no_memory c.args.cause) c.in-Err.ensures.err

pub returns-in-Ok-post_lost-clause-ok : goal.returns-in-Ok-post_lost-clause-ok
returns-in-Ok-post_lost-clause-ok c =
    let p = c.in-Ok.post in
    post_gone c.args.relay c.args.board.now c.post_lost.new.self c.args.worker p.list p.followed p.input p.tag (arc_value p.message) c.args.cause
    c.args.losses.now.items c.push_reserved.new.self.items c.in-Ok.ensures.ok c.in-Ok-post_lost.ensures.ok
    (rw c.reserve.ensures.items at c.push_reserved.ensures.items)

pub returns-clause-err : goal.returns-clause-err
returns-clause-err c =
    subst (λ why. IsIllegal why c.args.board.now (Event.PostLost c.args.worker (is_no_memory c.args.cause))) (sym c.illegal_of.ensures)
    (post_lost_refused c.in-Err-post_lost.fault c.args.cause c.args.board.now c.args.worker c.in-Err-post_lost.ensures.err)
