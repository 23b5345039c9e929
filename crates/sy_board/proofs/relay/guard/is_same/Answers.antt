use Rattle.sy_board.proofs.relay.SamePairs.{one_pair}
use Rattle.sy_board.proofs.relay.guard.is_same.Goals as goal

pub returns-then-one-other : goal.returns-then-one-other
returns-then-one-other c = one_pair c.args.one c.args.other c.eq.result c.if-one-other.true c.eq.ensures
