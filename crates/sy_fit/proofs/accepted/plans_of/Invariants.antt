use Rattle.std.proofs.Common.{◌≡◌, ◌≤◌, length, map, take}
use Rattle.std.specs.Arc.{arc_value}
use Rattle.sy_site.specs.Sites.{Relay}
use Rattle.sy_fit.proofs.accepted.plans_of.Given as goal

abbrev pub invariant-loop-relay : goal.invariant-loop-relay
invariant-loop-relay l = record {
  made : map arc_value l.plans.items ≡ map (λ (r : Relay). r.plan) (take l.relay l.fn.site.relays);
  all : l.relay-end ≡ length l.fn.site.relays;
  within : l.relay ≤ l.relay-end;
}
