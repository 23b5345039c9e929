use Rattle.std.proofs.Common.{arith, ℕ}
use Rattle.sy_endpoints.specs.Endpoints.{IsToNoHost}
use Rattle.sy_endpoints.proofs.Meetings.{relay_there}
use Rattle.sy_endpoints.proofs.Searches.{at_all, one_more}
use Rattle.sy_endpoints.proofs.no_host.first_no_host.Goals as goal

pub loop-relay-preserved : goal.loop-relay-preserved
loop-relay-preserved c =
    one_more (λ relay. (action : ℕ) × IsToNoHost c.args.site.now relay action) c.loop-relay.relay c.loop-relay.invariant
    (λ is. c.in_default.ensures.none is.0 is.1)

pub returns-clause-none : goal.returns-clause-none
returns-clause-none c relay action is =
    let many = c.relays-relay-end.ensures in
    let low = relay_there c.args.site.now relay action is.is is.there in
    at_all (λ relay. (action : ℕ) × IsToNoHost c.args.site.now relay action) c.loop-relay.relay c.loop-relay.invariant relay
    (omega (arith, many, low, c.loop-relay-test.false)) (action, is)
