use Rattle.std.proofs.Common.{◌≡◌, ◌+◌, length}
use Rattle.sy_host.proofs.serve.serve_at.Given as goal

-- each device is in a box or still to be put into one
abbrev pub invariant-loop-device : goal.invariant-loop-device
invariant-loop-device g l = record {
  count : length l.boxes.items + length l.left.items ≡ length l.fn.served.devices.items;
  guard : l.guard ≡ l.fn.served.guard;
  site : l.served.site ≡ l.fn.served.site;
  relay : l.served.relay ≡ l.fn.served.relay;
}

abbrev pub decreases-loop-device : goal.decreases-loop-device
decreases-loop-device g l = length l.left.items
