use Rattle.std.proofs.Common.{subst, sym, ◌∙◌}
use Rattle.sy_board.specs.relay.Boards.{JobIs}
use Rattle.sy_replay.proofs.Refused.{followed_is, no_run, no_run_at_all}
use Rattle.sy_replay.proofs.making.run_of.Goals as goal

pub returns-in-Ok-clause-ok : goal.returns-in-Ok-clause-ok
returns-in-Ok-clause-ok c =
    let is = subst (λ x. JobIs x c.args.board.now c.args.worker) c.in-Some-Run.field-0-is c.in-Some-Run.ensures.some in
    record { job = is.0; its_list = followed_is c.args.board.now c.args.worker c.in-Some.followed is.0 (sym c.followed.ensures ∙ c.in-Some.is); its_message = sym is.1 ∙ sym c.in-Ok.ensures; its_tag = sym is.2 }

pub returns-in-Some-Post-clause-err : goal.returns-in-Some-Post-clause-err
returns-in-Some-Post-clause-err c =
    let is = subst (λ x. JobIs x c.args.board.now c.args.worker) c.in-Some-Post.field-0-is c.in-Some-Post.ensures.some in
    no_run c.args.board.now c.args.worker _ is.0

pub returns-in-None-clause-err : goal.returns-in-None-clause-err
returns-in-None-clause-err c = no_run_at_all c.args.board.now c.args.worker c.in-None.ensures.none
