-- What the code keeps of a board.
use Rattle.std.specs.Prelude.{◌≡◌, ℕ, ◌≤◌, [], All, length, map, option_to_list}
use Rattle.std.specs.Arc.{arc_value}
use Rattle.sy_marks.specs.Marks.{QueueState}
use Rattle.sy_rules.specs.declared.parameters.settings.QueueParameters.{QueueParameters}
use Rattle.sy_rules.specs.Whole.{IsWhole}
use Rattle.sy_board.specs.declared.relay.board.Board.TheInside.{Inside}
use Rattle.sy_board.specs.relay.Boards.{Account, BoardState, account_of, guard_of}
use Rattle.sy_board.specs.relay.Cells.{IsShaped, RelayState}
use Rattle.sy_board.specs.relay.Guards.{IsGuarding, MayGuard}
use Rattle.sy_board.specs.relay.Patience.{IsPatient}
use Rattle.sy_board.specs.relay.Plans.{marks_of}
use Rattle.sy_board.specs.relay.Totals.{Laws}

abbrev pub state_inside : Inside → RelayState
state_inside b = record {
  hands = map option_to_list b.hands.items;
  queues = map (λ q. q.entries) b.queues.items;
  workers = map (λ w. w.entries) b.workers.items;
  failures = map (λ w. w.failures) b.workers.items;
}

abbrev pub board_inside : Inside → BoardState
board_inside b = record {
  plan = arc_value b.plan;
  guard = b.guard;
  state = state_inside b;
  totals = b.accounts.totals;
}

-- the queue of these parameters where nothing waits
abbrev pub empty_queue : QueueParameters → QueueState
empty_queue parameters = record { marks = marks_of parameters; entries = [] }

-- a worker has no more entries than the largest batch
abbrev pub LARGEST_BATCH : ℕ
LARGEST_BATCH = 65536

-- What each step keeps of a board with such an account.
pub record IsOrderly (board : BoardState) (account : Account) : Type 0 where
  pub whole : IsWhole board.plan
  pub shaped : IsShaped board.plan board.state
  pub laws : Laws board.plan board.state board.totals
  pub counted : account ≡ account_of board
  pub batches : All (λ entries. length entries ≤ LARGEST_BATCH) board.state.workers
  pub patient : IsPatient board.plan board.state
  pub may : MayGuard board.plan (guard_of board)
  pub guarding : IsGuarding board.plan (guard_of board) board.state
  pub unlost : board.totals.guarded_lost ≡ 0

pub record IsKept (b : Inside) : Type 0 where
  pub marks : map (λ q. q.marks) b.queues.items ≡ map marks_of (arc_value b.plan).queues
  pub orderly : IsOrderly (board_inside b) b.accounts
