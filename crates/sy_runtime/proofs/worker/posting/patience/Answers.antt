use Rattle.std.proofs.Common.{◌<◌, length, sym, subst, ◌∙◌}
use Rattle.sy_rules.specs.PlanValue.{Plan}
use Rattle.sy_rules.specs.Whole.{IsWhole}
use Rattle.sy_board.specs.relay.Boards.{JobIs}
use Rattle.sy_runtime.proofs.Posted.{held_if_none, list_there, no_post, no_post_at_all, one_list, patience_of}
use Rattle.sy_runtime.proofs.worker.posting.patience.Goals as goal

pub timeout_of-requires : goal.timeout_of-requires
timeout_of-requires c =
    let b = c.args.board.now in
    let is = subst (λ x. JobIs x b c.args.worker) c.in-Some-Post.field-0-is c.in-Some-Post.ensures.some in
    subst (λ (p : Plan). c.in-Some-Post.list < length p.lists) (sym (c.deref-in-Some-Post.ensures ∙ c.plan-in-Some-Post.ensures))
    (list_there b.plan b.state c.args.worker c.in-Some-Post.list (subst IsWhole (c.deref.ensures ∙ c.plan.ensures) c.plans_are_whole.ensures) is.0)

pub returns-in-Some-Post-clause-exact : goal.returns-in-Some-Post-clause-exact
returns-in-Some-Post-clause-exact c =
    let b = c.args.board.now in
    let is = subst (λ x. JobIs x b c.args.worker) c.in-Some-Post.field-0-is c.in-Some-Post.ensures.some in
    λ list job. patience_of c.in-Some-Post.list list c.timeout_of.result b.plan (rw (c.deref-in-Some-Post.ensures, c.plan-in-Some-Post.ensures) at c.timeout_of.ensures)
    (one_list b.plan b.state c.args.worker c.in-Some-Post.list list is.0 job)

pub returns-in-Some-Post-clause-held : goal.returns-in-Some-Post-clause-held
returns-in-Some-Post-clause-held c =
    let b = c.args.board.now in
    let is = subst (λ x. JobIs x b c.args.worker) c.in-Some-Post.field-0-is c.in-Some-Post.ensures.some in
    held_if_none b c.args.worker c.in-Some-Post.list c.timeout_of.result is.0 (rw (c.deref-in-Some-Post.ensures, c.plan-in-Some-Post.ensures) at c.timeout_of.ensures)

pub returns-in-Some-Run-clause-exact : goal.returns-in-Some-Run-clause-exact
returns-in-Some-Run-clause-exact c =
    let is = subst (λ x. JobIs x c.args.board.now c.args.worker) c.in-Some-Run.field-0-is c.in-Some-Run.ensures.some in
    λ list job. absurd (no_post c.args.board.now c.args.worker _ is.0 list job)

pub returns-in-None-clause-exact : goal.returns-in-None-clause-exact
returns-in-None-clause-exact c = λ list job. absurd (no_post_at_all c.args.board.now c.args.worker c.in-None.ensures.none list job)
