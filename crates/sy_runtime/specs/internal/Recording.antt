-- What a worker records of an offer.
use Rattle.std.specs.Prelude.{◌≡◌, ◌≤◌, ◌*◌, ◌==◌, ◌⊎◌, ℕ, [], Option, None, Some, if◌then◌else◌, length, slice_get}
use Rattle.sy_actions.specs.Devices.{DeliveredAll, Refused}
use Rattle.sy_rules.specs.PlanValue.{Plan}
use Rattle.sy_rules.specs.declared.parts.Action.{Action}
use Rattle.sy_board.specs.declared.fault.BoardFault.{BoardFault}
use Rattle.sy_board.specs.declared.relay.answers.Retry.TheVariants as retry
use Rattle.sy_board.specs.relay.Boards.{BoardState, FailFails, FailIs, SettlesNext, SettlesNoNext}
use Rattle.sy_runtime.specs.declared.worker.recording.After.{After}
use Rattle.sy_runtime.specs.declared.worker.recording.After.TheVariants.{GoesOn, Pauses, Ends}

-- The worker's jobs were settled by receipts one after the other, in their order; these are left.
pub data Settled (worker : ℕ) : BoardState → DeliveredAll → BoardState → DeliveredAll → Type 0 where
  none : {board : BoardState} {receipts : DeliveredAll} → Settled worker board receipts board receipts
  more :
      {old between new : BoardState} {receipts left later : DeliveredAll}
      → Settled worker old receipts between left → SettlesNext between worker left new later → Settled worker old receipts new later

-- by all of them
abbrev pub AllSettled : ℕ → BoardState → DeliveredAll → BoardState → Type 0
AllSettled worker old receipts new = (left : DeliveredAll) × Settled worker old receipts new left × (left.messages ≡ [])

-- by those in front of one that the board refuses
abbrev pub SomeSettled : BoardFault → ℕ → BoardState → DeliveredAll → BoardState → Type 0
SomeSettled fault worker old receipts new =
    (left : DeliveredAll) × Settled worker old receipts new left × SettlesNoNext fault new worker left

-- action.resumeInterval in milliseconds, and 10 where it is 0
abbrev pub pause_for : ℕ → ℕ
pause_for seconds = if seconds == 0 then 10 else 1000 * seconds

abbrev pub pause_in : Option Action → ℕ
pause_in None = 10
pause_in (Some action) = pause_for action.resume_interval

-- how long to wait after a failure of an action
abbrev pub pause_at : Plan → ℕ → ℕ
pause_at plan action = pause_in (slice_get plan.actions action)

-- A failure was recorded, if there was one: the action may be tried again after its pause, or the occurrence was given up.
abbrev pub FailureIs : After → BoardState → ℕ → Option Refused → BoardState → Type 0
FailureIs GoesOn old worker None new = new ≡ old
FailureIs GoesOn old worker (Some failure) new = FailIs retry.GaveUp old worker failure new
FailureIs (Pauses time) old worker None new = ⊥
FailureIs (Pauses time) old worker (Some failure) new = FailIs retry.Again old worker failure new × (time ≡ pause_at old.plan failure.device)
FailureIs Ends old worker None new = ⊥
FailureIs Ends old worker (Some failure) new = (new ≡ old) × (fault : BoardFault) × FailFails fault old worker failure

-- What was recorded: the receipts, all of them and in order, and then the failure. A worker ends where it isn't there, or where the board refuses one of them, and
-- then those behind it aren't recorded.
abbrev pub RecordIs : After → BoardState → ℕ → DeliveredAll → Option Refused → BoardState → Type 0
RecordIs after old worker receipts failure new =
    ((after ≡ Ends) × (new ≡ old) × (length old.plan.workers ≤ worker))
    ⊎ ((after ≡ Ends) × (fault : BoardFault) × SomeSettled fault worker old receipts new)
    ⊎ ((between : BoardState) × AllSettled worker old receipts between × FailureIs after between worker failure new)
