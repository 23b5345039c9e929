use Rattle.std.specs.Prelude.{ℕ}
use Rattle.sy_site.specs.declared.site.SiteInput.{SiteInput}
use Rattle.sy_endpoints.specs.Endpoints.{Meet}
use Rattle.sy_endpoints.specs.internal.Searches.{NoneBelow}
use Rattle.sy_endpoints.proofs.shared.first_meeting.Given as goal

-- none of those before
abbrev pub invariant-loop-relay : goal.invariant-loop-relay
invariant-loop-relay l = NoneBelow (λ relay. (one : ℕ) × (earlier : SiteInput) × Meet l.site (record { relay = relay; input = one }) earlier) l.relay
