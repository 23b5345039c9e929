use Rattle.std.specs.Prelude.{ℕ}
use Rattle.sy_endpoints.specs.Endpoints.{IsToNoHost}
use Rattle.sy_endpoints.specs.internal.Searches.{NoneBelow}
use Rattle.sy_endpoints.proofs.no_host.first_no_host.Given as goal

-- none of those before
abbrev pub invariant-loop-relay : goal.invariant-loop-relay
invariant-loop-relay l = NoneBelow (λ relay. (action : ℕ) × IsToNoHost l.site relay action) l.relay
