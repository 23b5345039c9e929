use Rattle.std.specs.Prelude.{ℕ}
use Rattle.sy_endpoints.specs.Endpoints.{ShareAPort}
use Rattle.sy_endpoints.specs.internal.Searches.{NoneBelow}
use Rattle.sy_endpoints.proofs.shared.shared_port.Given as goal

-- none of those before
abbrev pub invariant-loop-number : goal.invariant-loop-number
invariant-loop-number l = NoneBelow (λ number. (other : ℕ) × ShareAPort l.inputs l.others number other) l.number
