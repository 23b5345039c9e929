use Rattle.std.proofs.Common.{◌≡◌, replicate, None}
use Rattle.sy_board.proofs.relay.board.empty_hands.Given as goal

abbrev pub invariant-loop : goal.invariant-loop
invariant-loop l = l.hands.items ≡ replicate l.counter None
