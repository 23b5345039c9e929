use Rattle.std.proofs.Common.{◌≡◌, ◌≤◌, length}
use Rattle.sy_site.specs.Sites.{plan_at}
use Rattle.sy_waits.specs.internal.Groups.{AlikeIn}
use Rattle.sy_waits.proofs.Below.{AllBelow}
use Rattle.sy_waits.proofs.groups.alike_at.Given as goal

abbrev pub invariant-loop-list : goal.invariant-loop-list
invariant-loop-list l = record {
  each : AllBelow (AlikeIn l.site l.class l.group l.relay) l.list;
  all : l.many ≡ length (plan_at l.site l.relay).lists;
  within : l.list ≤ l.many;
}
