use Rattle.sy_endpoints.specs.Endpoints.{IsToNoHost}
use Rattle.sy_endpoints.specs.internal.Searches.{NoneBelow}
use Rattle.sy_endpoints.proofs.no_host.no_host_of.Given as goal

-- none of those before
abbrev pub invariant-loop-number : goal.invariant-loop-number
invariant-loop-number l = NoneBelow (λ number. IsToNoHost l.site l.relay number) l.number
