use Rattle.std.proofs.Common.{◌≡◌, ◌≤◌, length}
use Rattle.sy_site.specs.Sites.{plan_at}
use Rattle.sy_fit.specs.internal.Inners.{AreInners}
use Rattle.sy_fit.proofs.inners.push_inners.Given as goal

abbrev pub invariant-loop-list : goal.invariant-loop-list
invariant-loop-list l = record {
  inners : AreInners l.site l.class l.relay l.list l.inners.items;
  all : l.many ≡ length (plan_at l.site l.relay).lists;
  within : l.list ≤ l.many;
}
