use Rattle.sy_board.proofs.relay.Outcomes.{one_posted, one_taken}
use Rattle.sy_board.proofs.relay.one_entry.Goals as goal

pub returns-clause-taken : goal.returns-clause-taken
returns-clause-taken c = one_taken

pub returns-clause-posted : goal.returns-clause-posted
returns-clause-posted c = one_posted
