use Rattle.std.proofs.Common.{arith, ℕ}
use Rattle.sy_site.specs.declared.site.SiteInput.{SiteInput}
use Rattle.sy_endpoints.specs.Endpoints.{Meet}
use Rattle.sy_endpoints.proofs.Searches.{at_all, one_more, there_below}
use Rattle.sy_endpoints.proofs.shared.first_meeting.Goals as goal

pub loop-relay-preserved : goal.loop-relay-preserved
loop-relay-preserved c =
    one_more (λ relay. (one : ℕ) × (earlier : SiteInput) × Meet c.args.site.now (record { relay = relay; input = one }) earlier) c.loop-relay.relay
    c.loop-relay.invariant (λ is. c.in_default.ensures.none is.0 is.1 is.2)

pub returns-clause-none : goal.returns-clause-none
returns-clause-none c input earlier is =
    let many = c.relays-relay-end.ensures in
    at_all (λ relay. (one : ℕ) × (earlier : SiteInput) × Meet c.args.site.now (record { relay = relay; input = one }) earlier) c.loop-relay.relay
    c.loop-relay.invariant input.relay
    (there_below c.args.site.now.relays input.relay is.by.hosts.one c.loop-relay.relay is.by.hosts.one_is (omega (arith, many, c.loop-relay-test.false)))
    (input.input, earlier, record { is_earlier = is.is_earlier; by = is.by })
