use Rattle.std.proofs.Common.{◌≡◌, ◌≤◌, length}
use Rattle.sy_flows.specs.Flows.{AreEach}
use Rattle.sy_flows.specs.Hops.{AreRelayHops}
use Rattle.sy_flows.proofs.flows.hops.site_hops.Given as goal

abbrev pub invariant-loop-relay : goal.invariant-loop-relay
invariant-loop-relay l = record {
  each : AreEach (AreRelayHops l.fn.site l.fn.class l.fn.which) l.relay l.relays.items;
  all : l.relay-end ≡ length l.fn.site.relays;
  within : l.relay ≤ l.relay-end;
}
