use Rattle.std.proofs.Common.{◌≡◌, ◌≤◌, length}
use Rattle.sy_waits.specs.internal.Groups.{AlikeAt}
use Rattle.sy_waits.proofs.Below.{AllBelow}
use Rattle.sy_waits.proofs.groups.is_alike.Given as goal

abbrev pub invariant-loop-relay : goal.invariant-loop-relay
invariant-loop-relay l = record {
  each : AllBelow (AlikeAt l.site l.class l.group) l.relay;
  all : l.relay-end ≡ length l.site.relays;
  within : l.relay ≤ l.relay-end;
}
