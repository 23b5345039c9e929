use Rattle.sy_board.proofs.relay.AccountLaws.{laws_counted}
use Rattle.sy_board.proofs.relay.accounts_balance.Goals as goal

pub returns : goal.returns
returns c = laws_counted
