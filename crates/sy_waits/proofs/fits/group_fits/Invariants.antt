use Rattle.std.proofs.Common.{◌≡◌, ◌≤◌, length}
use Rattle.sy_waits.specs.internal.Fits.{RelaysFitBelow}
use Rattle.sy_waits.proofs.fits.group_fits.Given as goal

abbrev pub invariant-loop-relay : goal.invariant-loop-relay
invariant-loop-relay l = record {
  each : RelaysFitBelow l.site l.group.class l.of l.numbers l.marks l.relay;
  all : l.relay-end ≡ length l.site.relays;
  within : l.relay ≤ l.relay-end;
}
