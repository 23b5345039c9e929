use Rattle.sy_board.proofs.relay.AccountLaws.{opens}
use Rattle.sy_board.proofs.relay.it_opens_lawfully.Goals as goal

pub returns-clause-places : goal.returns-clause-places
returns-clause-places c = λ plan. (opens plan).0

pub returns-clause-laws : goal.returns-clause-laws
returns-clause-laws c = λ plan. (opens plan).1
