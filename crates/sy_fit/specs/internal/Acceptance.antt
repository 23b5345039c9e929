-- What is kept of all that is kept of an accepted site.
use Rattle.std.specs.Prelude.{◌≡◌, ℕ, Some, slice_get}
use Rattle.sy_rules.specs.PlanValue.{Plan}
use Rattle.sy_board.specs.relay.Guards.{MayGuard}
use Rattle.sy_board.specs.relay.Totals.{GuardState}
use Rattle.sy_fit.specs.Acceptance.{Acceptance, IsGuardAt}

-- the plan of each relay meets the condition of such a guard
abbrev pub AreGuardable : Acceptance → Type 0
AreGuardable accepted = (relay : ℕ) (plan : Plan) → Some plan ≡ slice_get accepted.plans relay → (guard : GuardState)
    → IsGuardAt accepted relay guard → MayGuard plan guard
