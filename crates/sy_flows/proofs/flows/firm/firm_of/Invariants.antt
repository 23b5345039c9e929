use Rattle.std.proofs.Common.{◌≡◌, ◌≤◌, length}
use Rattle.sy_flows.specs.Flows.{AreEach, AreRelayFirm}
use Rattle.sy_flows.proofs.flows.firm.firm_of.Given as goal

abbrev pub invariant-loop-relay : goal.invariant-loop-relay
invariant-loop-relay l = record {
  each : AreEach (AreRelayFirm l.fn.site) l.relay l.relays.items;
  all : l.relay-end ≡ length l.fn.site.relays;
  within : l.relay ≤ l.relay-end;
}
