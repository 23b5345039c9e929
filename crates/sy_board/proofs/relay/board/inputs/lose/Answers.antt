use Rattle.std.proofs.Common.{sym, subst, Bool}
use Rattle.sy_board.specs.internal.Counting.{after_expire}
use Rattle.sy_board.specs.relay.Boards.{Fits}
use Rattle.sy_board.proofs.relay.board.inputs.lose.Goals as goal

pub returns-in_default-clause-err : goal.returns-in_default-clause-err
returns-in_default-clause-err c =
    (c.in-Some.node, c.in-Some.is, λ fits. c.in_default.ensures.full (subst (λ (g : Bool). Fits (after_expire g c.args.accounts.now)) (sym c.is_guarded-guarded.ensures) fits))
