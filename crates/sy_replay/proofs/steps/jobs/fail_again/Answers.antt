use Rattle.std.proofs.Common.{sym, subst}
use Rattle.std.specs.Arc.{arc_value}
use Rattle.sy_board.specs.relay.Boards.{FailIs}
use Rattle.sy_replay.specs.internal.Jobs.{Answer, IsNoAnswer}
use Rattle.sy_replay.proofs.Made.{tried}
use Rattle.sy_replay.proofs.Refused.{fail_refused}
use Rattle.sy_replay.proofs.steps.jobs.fail_again.Goals as goal

pub returns-in-Ok-Again-clause-ok : goal.returns-in-Ok-Again-clause-ok
returns-in-Ok-Again-clause-ok c =
    let r = c.args.run in
    tried c.args.board.now c.failed.new.self c.args.worker r.action r.followed r.tag (arc_value r.message) c.failure_of.result c.requires.job c.failure_of.ensures.device
    (subst (λ x. FailIs x c.args.board.now c.args.worker c.failure_of.result c.failed.new.self) c.in-Ok-Again.field-0-is c.in-Ok-Again.ensures.ok)

pub returns-in-Err-clause-err : goal.returns-in-Err-clause-err
returns-in-Err-clause-err c =
    let r = c.args.run in
    subst (λ why. IsNoAnswer why Answer.Fail c.args.board.now c.args.worker) (sym c.illegal_of.ensures)
    (fail_refused c.in-Err.fault c.args.board.now c.args.worker r.action r.followed r.tag (arc_value r.message) c.failure_of.result c.requires.job
    c.failure_of.ensures.device c.failure_of.ensures.message c.failure_of.ensures.offered c.requires.again c.in-Err.ensures.err)
