use Rattle.std.proofs.Common.{arith, length, ap}
use Rattle.sy_unread.proofs.Turns.{drops_long}
use Rattle.sy_unread.proofs.skipping.steps.drop_long.Goals as goal

pub returns-clause-aside : goal.returns-clause-aside
returns-clause-aside c kept ahead =
    let size = ap length c.held.ensures in
    let dropped = drops_long c.args.standing.now c.args.left c.min-count.result ahead kept c.requires (omega (arith, c.min-count.ensures)) (omega (arith, size, c.min-count.ensures)) in
    rw (c.set_place.ensures, c.past_long.ensures, c.drop_front.ensures) dropped
