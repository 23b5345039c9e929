use Rattle.std.proofs.Common.{subst}
use Rattle.sy_endpoints.specs.Hosts.{IsNoHost, host_of}
use Rattle.sy_endpoints.specs.Outlets.{ConnectsTo, place_for}
use Rattle.sy_endpoints.proofs.Meetings.{one_connection}
use Rattle.sy_endpoints.proofs.no_host.no_host_at.Goals as goal

pub returns-in-Some : goal.returns-in-Some
returns-in-Some c =
    let here = subst (λ place. ConnectsTo place (host_of c.in-Some.found.0) c.in-Some.found.1) c.outlet_of.ensures c.in-Some.ensures.some in (
      λ yes. record { to = host_of c.in-Some.found.0; port = c.in-Some.found.1; connects = here; no_host = c.is_no_host.ensures.0 yes },
      λ leads. c.is_no_host.ensures.1 (subst IsNoHost
          (one_connection (place_for c.args.site.now c.args.destination.now) leads.to (host_of c.in-Some.found.0) leads.port c.in-Some.found.1 leads.connects here).0
          leads.no_host),
    )
