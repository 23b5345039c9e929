use Rattle.std.proofs.Common.{sym, subst}
use Rattle.std.specs.Arc.{arc_value}
use Rattle.sy_board.specs.relay.Boards.{PostIs}
use Rattle.sy_board.specs.relay.Steps.{Event}
use Rattle.sy_replay.specs.Events.{losses_of}
use Rattle.sy_replay.specs.internal.Events.{IsIllegal}
use Rattle.sy_replay.specs.internal.Parts.{MakesInside}
use Rattle.sy_replay.proofs.Made.{post_discarded, posted_on, quiet}
use Rattle.sy_replay.proofs.Refused.{no_post_steps, post_held, post_refused}
use Rattle.sy_replay.proofs.steps.posts.post.Goals as goal

pub returns-in-Err-clause-err : goal.returns-in-Err-clause-err
returns-in-Err-clause-err c = no_post_steps c.in-Err.why c.args.board.now c.args.worker c.in-Err.ensures.err

pub returns-in-Ok-Done-clause-ok : goal.returns-in-Ok-Done-clause-ok
returns-in-Ok-Done-clause-ok c =
    let w = c.args.worker in
    subst (λ xs. MakesInside c.args.relay c.args.board.now (losses_of c.args.losses.now.items) (Event.Post w) c.post.new.self (losses_of xs)) (sym c.reserve.ensures.items)
    (quiet c.args.relay c.args.board.now c.post.new.self (Event.Post w) (losses_of c.args.losses.now.items)
    (posted_on c.args.board.now c.post.new.self w c.in-Ok-node_of.node
    (subst (λ x. PostIs x c.args.board.now w c.in-Ok-node_of.node c.post.new.self) c.in-Ok-Done.field-0-is c.in-Ok-Done.ensures.ok)))

pub returns-in-Ok-Discarded-clause-ok : goal.returns-in-Ok-Discarded-clause-ok
returns-in-Ok-Discarded-clause-ok c =
    let w = c.args.worker in
    let p = c.in-Ok.post in
    post_discarded c.args.relay c.args.board.now c.post.new.self w p.list p.followed p.input p.tag (arc_value p.message) c.in-Ok-node_of.node c.in-Ok-Discarded.field-0-0
    c.args.losses.now.items c.push_reserved.new.self.items c.in-Ok.ensures.ok
    (subst (λ x. PostIs x c.args.board.now w c.in-Ok-node_of.node c.post.new.self) c.in-Ok-Discarded.field-0-is c.in-Ok-Discarded.ensures.ok)
    (rw c.reserve.ensures.items at c.push_reserved.ensures.items)

pub returns-in-Ok-Held-clause-err : goal.returns-in-Ok-Held-clause-err
returns-in-Ok-Held-clause-err c =
    let w = c.args.worker in
    post_held c.args.board.now c.post.new.self w c.in-Ok-node_of.node c.in-Ok-Held.field-0-0 c.in-Ok-node_of.ensures.ok
    (subst (λ x. PostIs x c.args.board.now w c.in-Ok-node_of.node c.post.new.self) c.in-Ok-Held.field-0-is c.in-Ok-Held.ensures.ok)

pub returns-clause-err : goal.returns-clause-err
returns-clause-err c =
    subst (λ why. IsIllegal why c.args.board.now (Event.Post c.args.worker)) (sym c.illegal_of.ensures)
    (post_refused c.in-Err-post.fault c.args.board.now c.args.worker c.in-Ok-node_of.node c.in-Err-post.ensures.err)
