use Rattle.sy_board.proofs.relay.Firsts.{of_next}
use Rattle.sy_board.proofs.relay.board.jobs.left_by.Goals as goal

pub returns-clause-ok : goal.returns-clause-ok
returns-clause-ok c =
    of_next c.args.plan.now c.args.entries.now c.in-Some.action c.args.device c.args.message.now c.in-Some.left c.if-action-device.false c.in-Some.ensures.some
    (c.is_first_of.ensures.0 c.if-not-is_first_of.false)
