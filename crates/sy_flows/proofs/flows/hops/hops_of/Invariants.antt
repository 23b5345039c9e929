use Rattle.std.proofs.Common.{◌-◌, length}
use Rattle.sy_site.specs.Sites.{plan_at}
use Rattle.sy_flows.specs.internal.Marks.{AreListed}
use Rattle.sy_flows.proofs.Walking.{HasWalked}
use Rattle.sy_flows.proofs.flows.hops.hops_of.Given as goal

abbrev pub invariant-loop-at : goal.invariant-loop-at
invariant-loop-at l =
    HasWalked l.site l.class l.which l.relay (length (plan_at l.site l.relay).lists) l.list l.next l.found.hops.items l.found.lists.items
    × AreListed l.found.lists.items l.found.marks.items

abbrev pub decreases-loop-at : goal.decreases-loop-at
decreases-loop-at l = 64 - l.next
