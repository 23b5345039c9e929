use Rattle.std.proofs.Common.{◌≡◌, ◌≤◌, length}
use Rattle.sy_waits.specs.internal.Groups.{GroupHasLeft}
use Rattle.sy_waits.proofs.Alike.{OfFirst}
use Rattle.sy_waits.proofs.waits.round_of.Given as goal

abbrev pub invariant-loop-place : goal.invariant-loop-place
invariant-loop-place l = record {
  each : OfFirst (GroupHasLeft l.site) l.groups l.place;
  all : l.place-end ≡ length l.groups;
  within : l.place ≤ l.place-end;
}
