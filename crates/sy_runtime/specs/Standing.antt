-- The totals of a relay as they stand.
use Rattle.std.specs.Prelude.{◌≡◌, ℕ, ◌+◌, ◌-◌, List, length, map, sum_by}
use Rattle.sy_board.specs.relay.Boards.{Account, BoardState, account_of}
use Rattle.sy_board.specs.relay.Cells.{IsShaped}
use Rattle.sy_board.specs.relay.Totals.{Counts, Laws, Totals}

-- the posts and the runs that became due for entries that workers have, and are still to be done
abbrev pub posts_left : Totals → ℕ
posts_left totals = totals.posts_due - (totals.posted + totals.lost_post)

abbrev pub runs_left : Counts → ℕ
runs_left counts = counts.due - (counts.done + counts.given_up)

-- What a relay with such an account holds: each entry in a hand or in a queue, and of those that workers have all that is still to be done. (It is
-- nothing only where it holds no entry.)
abbrev pub held_by : Account → ℕ
held_by account = account.held_in_hands + account.held_in_queues + posts_left account.totals + sum_by runs_left account.totals.actions

-- What a relay tells of itself: messages taken, losses, what it holds, how many entries wait in each queue, and what it counted of each action. They are of one board, whose totals meet
-- the laws of accounts with what it holds then, and which has lost nothing guarded.
pub record Stands (taken lost held : ℕ) (queues : List ℕ) (actions : List Counts) : Type 0 where
  pub board : BoardState
  pub taken_is : taken ≡ board.totals.taken
  pub lost_is : lost ≡ board.totals.lost_in + board.totals.lost_post + board.totals.lost_out
  pub held_is : held ≡ held_by (account_of board)
  pub queues_are : queues ≡ map length board.state.queues
  pub actions_are : actions ≡ board.totals.actions
  pub laws : Laws board.plan board.state board.totals
  pub shaped : IsShaped board.plan board.state
  pub unlost : board.totals.guarded_lost ≡ 0
