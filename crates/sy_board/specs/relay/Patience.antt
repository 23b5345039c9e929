-- No worker's job has failed more often than it may be tried again.
use Rattle.std.specs.Prelude.{◌≡◌, ℕ, ◌≤◌, [], Some}
use Rattle.sy_rules.specs.declared.lists.occurrence.Occurrence.TheVariants as occurrence
use Rattle.sy_rules.specs.PlanValue.{Plan}
use Rattle.sy_board.specs.relay.Cells.{Cell, RelayState, at, failures_at}
use Rattle.sy_board.specs.relay.Plans.{retry_at}
use Rattle.sy_board.specs.relay.Steps.{Job}

pub record IsPatient (plan : Plan) (state : RelayState) : Type 0 where
  -- a worker without entries has no failures
  pub idle : (worker : ℕ) → at state (Cell.Worker worker) ≡ [] → failures_at state worker ≡ 0
  pub runs : (worker action retry : ℕ) → Job plan state worker (occurrence.Run action) → retry_at plan action ≡ Some retry
      → failures_at state worker ≤ retry
