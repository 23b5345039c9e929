use Rattle.std.specs.Prelude.{ℕ}
use Rattle.sy_endpoints.specs.Endpoints.{MeetBy}
use Rattle.sy_endpoints.specs.internal.Searches.{NoneBelow}
use Rattle.sy_endpoints.proofs.shared.meeting_at.Given as goal

-- none of those before
abbrev pub invariant-loop-earlier : goal.invariant-loop-earlier
invariant-loop-earlier l = NoneBelow (λ earlier. (one : ℕ) × (other : ℕ) × MeetBy l.site l.relay earlier one other) l.earlier
