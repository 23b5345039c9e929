-- What a relay's devices took, and what it lost, as lists.
use Rattle.std.specs.Prelude.{ℕ, List, [], slice_index_or}
use Rattle.sy_board.specs.relay.Boards.{BoardState}

-- what an action's device took
abbrev pub tags_at : List (List ℕ) → ℕ → List ℕ
tags_at passed action = slice_index_or passed action []

-- a relay: its board, and what its devices took, by action
pub record PartState : Type 0 where
  pub board : BoardState
  pub passed : List (List ℕ)
