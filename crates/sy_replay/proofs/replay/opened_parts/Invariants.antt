use Rattle.std.proofs.Common.{◌≡◌, ◌≤◌, length, map, take}
use Rattle.sy_site.specs.Sites.{Relay}
use Rattle.sy_replay.specs.Held.{opened_part}
use Rattle.sy_replay.proofs.replay.opened_parts.Given as goal

abbrev pub invariant-loop-relay : goal.invariant-loop-relay
invariant-loop-relay l = record {
  made : l.parts.items ≡ map (λ (r : Relay). opened_part r.plan) (take l.relay l.fn.site.relays);
  all : l.relay-end ≡ length l.fn.site.relays;
  within : l.relay ≤ l.relay-end;
}
