-- What a relay that was served leaves.
use Rattle.std.specs.Prelude.{ℕ, List, Option}
use Rattle.sy_chain.specs.Entries.{Entry}
use Rattle.sy_board.specs.relay.Boards.{Account}
use Rattle.sy_board.specs.relay.Totals.{GuardState}
use Rattle.sy_runtime.specs.Connections.{Counts}
use Rattle.sy_runtime.specs.Stopping.{Stops}

-- It was started with this guard, or with none, its connections counted that, and this is what it leaves.
pub record IsLeft (guard : Option GuardState) (ends : List Counts) (account : Account) (left : List Entry) : Type 0 where
  pub made : List ℕ
  pub stops : Stops guard ends account left made
