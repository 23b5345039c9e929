use Rattle.std.proofs.Common.{◌<◌, ◌≢◌, ℕ}
use Rattle.std.specs.Prelude.{slice_get, IfSome}
use Rattle.sy_fleet.proofs.statements.end_by.Given as goal

abbrev pub invariant-loop-at : goal.invariant-loop-at
invariant-loop-at l = (k : ℕ) → k < l.at → l.first < k → IfSome (slice_get l.pieces k) (λ piece. piece.kind ≢ l.end)
