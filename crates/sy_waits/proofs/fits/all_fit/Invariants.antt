use Rattle.std.proofs.Common.{◌≡◌, ◌≤◌, length}
use Rattle.sy_waits.specs.internal.Groups.{GroupFits}
use Rattle.sy_waits.proofs.Alike.{OfFirst}
use Rattle.sy_waits.proofs.fits.all_fit.Given as goal

abbrev pub invariant-loop-place : goal.invariant-loop-place
invariant-loop-place l = record {
  each : OfFirst (GroupFits l.site l.of l.numbers) l.groups l.place;
  all : l.place-end ≡ length l.groups;
  within : l.place ≤ l.place-end;
}
