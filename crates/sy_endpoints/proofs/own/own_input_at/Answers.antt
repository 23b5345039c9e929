use Rattle.std.proofs.Common.{subst}
use Rattle.sy_endpoints.specs.Endpoints.{IsReachedAt}
use Rattle.sy_endpoints.specs.Hosts.{host_of}
use Rattle.sy_endpoints.specs.Outlets.{ConnectsTo, place_for}
use Rattle.sy_endpoints.proofs.Meetings.{one_connection}
use Rattle.sy_endpoints.proofs.own.own_input_at.Goals as goal

pub returns-in-None-clause-none : goal.returns-in-None-clause-none
returns-in-None-clause-none c input leads =
    let here = subst (λ place. ConnectsTo place (host_of c.in-Some.found.0) c.in-Some.found.1) c.outlet_of.ensures c.in-Some.ensures.some in
    let one = one_connection (place_for c.args.site.now c.args.destination.now) leads.to (host_of c.in-Some.found.0) leads.port c.in-Some.found.1
    leads.connects here in
    c.in-None.ensures.none input
    (subst (λ to. IsReachedAt c.args.site.now c.args.relay to c.in-Some.found.1 input) one.0
    (subst (λ port. IsReachedAt c.args.site.now c.args.relay leads.to port input) one.1 leads.reached))
