use Rattle.std.proofs.Common.{◌≡◌, length}
use Rattle.sy_running.proofs.opening.devices_of.Given as goal

-- a device for each outlet so far
abbrev pub invariant-loop-outlet : goal.invariant-loop-outlet
invariant-loop-outlet l = record {
  count : length l.devices.items ≡ l.outlet-index;
}
