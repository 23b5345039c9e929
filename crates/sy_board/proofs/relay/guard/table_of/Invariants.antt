use Rattle.std.proofs.Common.{take}
use Rattle.sy_board.specs.internal.Guarding.{IsTable}
use Rattle.sy_board.proofs.relay.guard.table_of.Given as goal

-- the pairs so far are marked
abbrev pub invariant-loop-input : goal.invariant-loop-input
invariant-loop-input l = IsTable (take l.input-index l.pairs) l.table.items
