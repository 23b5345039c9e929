use Rattle.std.proofs.Common.{◌≡◌, map, replicate}
use Rattle.sy_board.specs.relay.Totals.{no_counts}
use Rattle.sy_board.specs.relay.Boards.{counts_of}
use Rattle.sy_board.proofs.relay.accounts.Accounts.new.Given as goal

-- so many actions have counts, and all of these are none
abbrev pub invariant-loop : goal.invariant-loop
invariant-loop l = map counts_of l.counts.items ≡ replicate l.counter no_counts
