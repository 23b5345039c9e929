use Rattle.std.proofs.Common.{◌≡◌, ◌+◌, List, ℕ, false, length}
use Rattle.sy_board.specs.relay.Steps.{IsHand}
use Rattle.sy_runtime.specs.Connections.{Kept}
use Rattle.sy_runtime.specs.internal.Counted.{RoseAlike}
use Rattle.sy_runtime.specs.internal.Held.{Holds}
use Rattle.sy_runtime.specs.internal.Taking.{BatchInsert}
use Rattle.sy_runtime.proofs.connection.taking.insert_some.Given as goal

abbrev pub invariant-loop-item : goal.invariant-loop-item
invariant-loop-item l = record {
  there : IsHand l.board.plan l.hand.input l.hand.number;
  kept : (read left : List ℕ) (reported : Kept) → Holds read l.fn.end reported l.fn.batch.items left → Holds read l.end reported l.batch.items left;
  taken : l.board.totals.taken + l.fn.end.took ≡ l.fn.board.totals.taken + l.end.took;
  counted : RoseAlike l.fn.counts l.counts l.fn.end l.end;
  plan : l.board.plan ≡ l.fn.board.plan;
  free : l.is_in_hand ≡ false;
  inserted : BatchInsert l.fn.batch.items l.batch.items l.fn.board l.hand l.board;
}

abbrev pub decreases-loop-item : goal.decreases-loop-item
decreases-loop-item l = length l.batch.items
