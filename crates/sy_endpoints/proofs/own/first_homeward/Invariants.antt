use Rattle.std.specs.Prelude.{ℕ}
use Rattle.sy_endpoints.specs.Endpoints.{IsHomeward}
use Rattle.sy_endpoints.specs.internal.Searches.{NoneBelow}
use Rattle.sy_endpoints.proofs.own.first_homeward.Given as goal

-- none of those before
abbrev pub invariant-loop-number : goal.invariant-loop-number
invariant-loop-number l = NoneBelow (λ number. (input : ℕ) × IsHomeward l.site l.relay number input) l.number
