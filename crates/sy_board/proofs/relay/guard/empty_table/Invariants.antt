use Rattle.std.proofs.Common.{◌≡◌, false, replicate}
use Rattle.sy_board.proofs.relay.guard.empty_table.Given as goal

abbrev pub invariant-loop : goal.invariant-loop
invariant-loop l = l.table.items ≡ replicate l.counter false
