use Rattle.sy_endpoints.specs.Endpoints.{IsAtPort}
use Rattle.sy_endpoints.specs.internal.Searches.{NoneBelow}
use Rattle.sy_endpoints.proofs.shared.input_at.Given as goal

-- none of those before
abbrev pub invariant-loop-number : goal.invariant-loop-number
invariant-loop-number l = NoneBelow (λ number. IsAtPort l.inputs number l.port) l.number
