use Rattle.std.proofs.Common.{subst}
use Rattle.sy_board.specs.relay.Boards.{JobIs}
use Rattle.sy_runtime.proofs.worker.finding.find.Goals as goal

pub find_runs-requires-clause-run : goal.find_runs-requires-clause-run
find_runs-requires-clause-run c =
    let is = subst (λ x. JobIs x c.args.board.now c.args.worker) c.in-Some-Run.field-0-is c.in-Some-Run.ensures.some in
    (_, is.0)
