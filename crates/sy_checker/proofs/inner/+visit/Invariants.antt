use Rattle.std.proofs.Common.{◌≡◌, ◌+◌, ◌*◌, ◌-◌, length}
use Rattle.sy_site.specs.Sites.{plan_at}
use Rattle.sy_checker.specs.internal.Inner.{AreDone, AreOpen, KeepsDone}
use Rattle.sy_checker.proofs.Numbering.{IsAskedBelow}
use Rattle.sy_checker.proofs.inner.+visit.Given as goal

-- the lists that aren't on the way
abbrev pub decreases-visit : goal.decreases-visit
decreases-visit l = 3 * (length (plan_at l.site.now l.input.relay).lists - length l.way.now.items) + 1

abbrev pub decreases-visit_posts : goal.decreases-visit_posts
decreases-visit_posts l = 3 * (length (plan_at l.site.now l.input.relay).lists - length l.way.now.items) + 3

abbrev pub decreases-visit_one : goal.decreases-visit_one
decreases-visit_one l = 3 * (length (plan_at l.site.now l.input.relay).lists - length l.way.now.items) + 2

abbrev pub invariant-visit_posts-loop-at : goal.invariant-visit_posts-loop-at
invariant-visit_posts-loop-at l = record {
  way : l.way.items ≡ l.initial.way.items;
  undone : AreOpen l.initial.way.items l.done.items;
  done : AreDone l.site l.class l.input.relay l.done.items;
  kept : KeepsDone l.initial.done.items l.done.items;
  asked : IsAskedBelow l.site l.class l.input.relay l.done.items l.list l.next l.number;
}

abbrev pub decreases-visit_posts-loop-at : goal.decreases-visit_posts-loop-at
decreases-visit_posts-loop-at l = 64 - l.next
