use Rattle.std.proofs.Common.{◌≡◌, ℕ, ◌<◌, ◌≤◌, length}
use Rattle.sy_site.specs.Sites.{plan_at}
use Rattle.sy_waits.specs.internal.Fits.{ListFits}
use Rattle.sy_waits.proofs.Below.{AllBelow}
use Rattle.sy_waits.proofs.fits.lists_fit.Given as goal

abbrev pub invariant-loop-list : goal.invariant-loop-list
invariant-loop-list l = record {
  each : AllBelow (ListFits l.site l.class l.of l.numbers l.marks l.relay) l.list;
  all : l.many ≡ length (plan_at l.site l.relay).lists;
  within : l.list ≤ l.many;
}
