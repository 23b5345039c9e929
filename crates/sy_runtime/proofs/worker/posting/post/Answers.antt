use Rattle.std.proofs.Common.{refl, subst}
use Rattle.sy_board.specs.relay.Boards.{PostIs}
use Rattle.sy_runtime.proofs.Posted.{no_job_refused, post_discarded, post_done, post_held, post_refused}
use Rattle.sy_runtime.proofs.worker.posting.post.Goals as goal

pub returns-in-Ok-None : goal.returns-in-Ok-None
returns-in-Ok-None c = (refl, no_job_refused c.args.board.now c.args.worker (rw c.in-Ok-None.field-0-is at c.in-Ok-None.ensures.none))

pub returns-in-Ok-Done : goal.returns-in-Ok-Done
returns-in-Ok-Done c = post_done c.args.board.now c.args.worker c.in-Ok-Some.node c.post.new.self
    (subst (λ x. PostIs x c.args.board.now c.args.worker c.in-Ok-Some.node c.post.new.self) c.in-Ok-Done.field-0-is c.in-Ok-Done.ensures.ok)

pub returns-in-Ok-Discarded : goal.returns-in-Ok-Discarded
returns-in-Ok-Discarded c = post_discarded c.args.board.now c.args.worker c.in-Ok-Some.node c.in-Ok-Discarded.node c.post.new.self
    (subst (λ x. PostIs x c.args.board.now c.args.worker c.in-Ok-Some.node c.post.new.self) c.in-Ok-Discarded.field-0-is c.in-Ok-Discarded.ensures.ok)

pub returns-in-Ok-Held : goal.returns-in-Ok-Held
returns-in-Ok-Held c = post_held c.args.board.now c.args.worker c.in-Ok-Some.node c.in-Ok-Held.node c.post.new.self
    (subst (λ x. PostIs x c.args.board.now c.args.worker c.in-Ok-Some.node c.post.new.self) c.in-Ok-Held.field-0-is c.in-Ok-Held.ensures.ok)

pub returns : goal.returns
returns c = (c.in-Err-post.ensures.unchanged, post_refused c.in-Err-post.field-0-1 c.args.board.now c.args.worker c.in-Ok-Some.node c.in-Err-post.ensures.err)
