use Rattle.sy_board.proofs.relay.Tallies.{Comes}
use Rattle.sy_board.proofs.relay.accounts.Accounts.count_entry.Given as goal

-- what is left comes to what all of it comes to
abbrev pub invariant-loop-left : goal.invariant-loop-left
invariant-loop-left l = Comes l.plan l.list l.left l.self l.due l.fn.self

abbrev pub decreases-loop-left : goal.decreases-loop-left
decreases-loop-left l = l.left
