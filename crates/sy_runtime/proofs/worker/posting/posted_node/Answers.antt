use Rattle.std.proofs.Common.{◌<◌, length, sym, subst, ◌∙◌}
use Rattle.std.specs.Arc.{arc_value}
use Rattle.sy_rules.specs.PlanValue.{Plan}
use Rattle.sy_rules.specs.Whole.{IsWhole}
use Rattle.sy_board.specs.relay.Boards.{JobIs}
use Rattle.sy_runtime.proofs.Posted.{list_there, no_post, no_post_at_all, posts_made}
use Rattle.sy_runtime.proofs.worker.posting.posted_node.Goals as goal

pub entry_of-requires : goal.entry_of-requires
entry_of-requires c =
    let b = c.args.board.now in
    let is = subst (λ x. JobIs x b c.args.worker) c.in-Some-Post.field-0-is c.in-Some-Post.ensures.some in
    subst (λ (p : Plan). c.in-Some-Post.list < length p.lists) (sym (c.deref-in-Some-Post.ensures ∙ c.plan-in-Some-Post.ensures))
    (list_there b.plan b.state c.args.worker c.in-Some-Post.list (subst IsWhole (c.deref.ensures ∙ c.plan.ensures) c.plans_are_whole.ensures) is.0)

pub returns-in-Ok-clause-some : goal.returns-in-Ok-clause-some
returns-in-Ok-clause-some c =
    let b = c.args.board.now in
    let p = c.in-Some-Post in
    let is = subst (λ x. JobIs x b c.args.worker) c.in-Some-Post.field-0-is c.in-Some-Post.ensures.some in
    let made = rw (c.deref-in-Some-Post.ensures, c.plan-in-Some-Post.ensures) at c.in-Ok.ensures in
    posts_made b c.args.worker p.list p.input p.tag (arc_value p.message.now) is.0 is.1 is.2 is.3 made.0 c.in-Ok.node made.1 made.2

pub returns-in-Some-Run-clause-none : goal.returns-in-Some-Run-clause-none
returns-in-Some-Run-clause-none c =
    let is = subst (λ x. JobIs x c.args.board.now c.args.worker) c.in-Some-Run.field-0-is c.in-Some-Run.ensures.some in
    no_post c.args.board.now c.args.worker _ is.0

pub returns-in-None-clause-none : goal.returns-in-None-clause-none
returns-in-None-clause-none c = no_post_at_all c.args.board.now c.args.worker c.in-None.ensures.none
