use Rattle.std.proofs.Common.{sym, subst}
use Rattle.std.specs.Arc.{arc_value}
use Rattle.sy_board.specs.relay.Boards.{SettleFails, SettleIs}
use Rattle.sy_replay.specs.internal.Jobs.{Answer, IsNoAnswer}
use Rattle.sy_replay.proofs.Made.{settled}
use Rattle.sy_replay.proofs.Refused.{settle_refused}
use Rattle.sy_replay.proofs.steps.jobs.settle.Goals as goal

pub returns-in-Ok-clause-ok : goal.returns-in-Ok-clause-ok
returns-in-Ok-clause-ok c =
    let r = c.args.run in
    settled c.args.board.now c.settle.new.self c.args.worker r.action r.followed r.tag (arc_value r.message) c.requires.job
    (subst (λ x. SettleIs c.args.board.now c.args.worker x c.settle.new.self) c.receipt_of.ensures c.in-Ok.ensures.ok)

pub returns-in-Err-clause-err : goal.returns-in-Err-clause-err
returns-in-Err-clause-err c =
    let r = c.args.run in
    subst (λ why. IsNoAnswer why Answer.Done c.args.board.now c.args.worker) (sym c.illegal_of.ensures)
    (settle_refused c.in-Err.fault c.args.board.now c.args.worker r.action r.followed r.tag (arc_value r.message) c.requires.job
    (subst (λ x. SettleFails c.in-Err.fault c.args.board.now c.args.worker x) c.receipt_of.ensures c.in-Err.ensures.err))
