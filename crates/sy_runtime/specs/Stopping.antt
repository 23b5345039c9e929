-- How a relay stops.
use Rattle.std.specs.Prelude.{◌≡◌, ℕ, List, Option, map, sum_by}
use Rattle.sy_chain.specs.Entries.{Entry}
use Rattle.sy_board.specs.relay.Boards.{Account, BoardState, account_of, guard_of}
use Rattle.sy_board.specs.relay.Cells.{IsShaped, held}
use Rattle.sy_board.specs.relay.Guards.{IsWithinGuard}
use Rattle.sy_board.specs.relay.Totals.{GuardState, Laws}
use Rattle.sy_runtime.specs.Connections.{Counts}

-- What a relay leaves that was started with this guard, or with none: its totals, the entries that it still held, and how many receipts the
-- hatch of each action made. They are of one board, and agree with what these, which are all its connections, counted.
pub record Stops (guard : Option GuardState) (ends : List Counts) (accounts : Account) (left : List Entry) (made : List ℕ) : Type 0 where
  pub board : BoardState
  pub totals : accounts ≡ account_of board
  -- all that the relay held, each entry with what is due for it
  pub held_are : left ≡ held board.state
  pub laws : Laws board.plan board.state board.totals
  pub shaped : IsShaped board.plan board.state
  -- each message that was taken came by one of the connections
  pub taken : board.totals.taken ≡ sum_by (λ end. end.took) ends
  -- each run that is done has a receipt, and each receipt is of one that is done
  pub done : map (λ counts. counts.done) board.totals.actions ≡ made
  -- the guard is the one that was given, and nothing guarded was lost
  pub guarded : board.guard ≡ guard
  pub unlost : board.totals.guarded_lost ≡ 0
  pub within : IsWithinGuard board.plan (guard_of board) board.state
