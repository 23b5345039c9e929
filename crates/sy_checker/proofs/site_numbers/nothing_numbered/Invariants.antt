use Rattle.std.proofs.Common.{◌≡◌, ◌≤◌, length}
use Rattle.sy_flows.specs.Flows.{AreEach}
use Rattle.sy_checker.specs.internal.Inner.{HasNone}
use Rattle.sy_checker.proofs.site_numbers.nothing_numbered.Given as goal

abbrev pub invariant-loop-relay : goal.invariant-loop-relay
invariant-loop-relay l = record {
  each : AreEach HasNone l.relay l.numbers.items;
  all : l.relay-end ≡ length l.fn.site.relays;
  within : l.relay ≤ l.relay-end;
}
